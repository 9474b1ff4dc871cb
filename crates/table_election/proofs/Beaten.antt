-- A peer is elected exactly if one beats us; we are exactly if none does, our priority isn't 255 and a peer is Live.
use Prim.Native.Nat.{ℕ}
use mathlib.Core.Path.{◌≡◌, refl, ap, sym, ◌∙◌}
use mathlib.Core.Bool.{Bool, true, false, cond, not, ◌&&◌, ◌||◌}
use mathlib.Core.List.{List, [], ◌∷◌}
use Rattle.std.specs.Prelude.{Some, None}
use native.Mathlib.Omega.{arith}
use lib.ListN.{length}
use lib.Dec.{eqb}
use borrow.Author.Tests.{eqb-true}
use Rattle.base_mi.specs.declared.Mi.{Mi}
use Rattle.table.specs.declared.Peer.{Peer}
use Rattle.table.specs.declared.Table.{Table}
use Rattle.table_election.specs.declared.Rank.{Rank}
use Rattle.table_election.specs.declared.Server.{Server}
use Rattle.table_election.specs.declared.Server.TheVariants.{Elected}
use Rattle.law_lists.specs.Lists.{those}
use Rattle.table.specs.Table.{entries}
use Rattle.table_lookup.specs.Look.{is_live}
use Rattle.table_counts.specs.Counts.{live_count}
use Rattle.table_election.specs.Elect.{lower, rank_of, may_lead, eligible, candidates, winner, elected}
use Rattle.table_election.specs.Lead.{by_us, by_peer, leader, ranks, server_led}
use Rattle.table_election.specs.Stand.{is_ours, is_theirs, some_beats, stand_of}
use Rattle.law_lists.proofs.Laws.{by_cases}
use Rattle.table_election.proofs.Least.{either_way, led-winner}

-- ---- who leads at the end

-- a peer that leads leaves the lead only to a peer
led-peer : (q : Rank) (rs : List Rank) → (m : Mi) × (server_led (leader (Some (by_peer q)) rs) ≡ Elected m)
led-peer q [] = (q.mi, refl)
led-peer q (r ∷ rs) = by_cases (lower r q) (λ e. rw e (led-peer r rs)) (λ e. rw e (led-peer q rs))

-- x is a peer exactly if some peer beats us, and ourselves exactly if we may lead and none does
abbrev Settled : Bool → Bool → Server → Type 0
Settled may some x = (is_theirs x ≡ some) × (is_ours x ≡ may && not some)

settled-peer : (may : Bool) (x : Server) → (m : Mi) × (x ≡ Elected m) → Settled may true x
settled-peer true x e = (ap is_theirs e.1, ap is_ours e.1)
settled-peer false x e = (ap is_theirs e.1, ap is_ours e.1)

module _ (own : Rank) where
  led-ours : may_lead own.priority ≡ true → (l : List Peer) → Settled true (some_beats own l) (server_led (leader (Some (by_us own)) (ranks l)))
  led-ours may [] = (refl, refl)
  led-ours may (p ∷ l) =
      by_cases (eligible p)
      (λ e. rw (e, may)
      (either_way (λ b. Settled true (b || some_beats own l) (server_led (leader (cond b (Some (by_peer (rank_of p))) (Some (by_us own))) (ranks l))))
      (settled-peer true _ (led-peer (rank_of p) (ranks l))) (led-ours may l) (lower (rank_of p) own)))
      (λ e. rw e (led-ours may l))

  led-neither : may_lead own.priority ≡ false → (l : List Peer) → Settled false (some_beats own l) (server_led (leader None (ranks l)))
  led-neither may [] = (refl, refl)
  led-neither may (p ∷ l) =
      by_cases (eligible p)
      (λ e. rw (e, may) (settled-peer false _ (led-peer (rank_of p) (ranks l))))
      (λ e. rw e (led-neither may l))

  won-settled : (l : List Peer) → Settled (may_lead own.priority) (some_beats own l) (winner (candidates own l))
  won-settled l =
      rw (sym (led-winner own l))
      (by_cases (may_lead own.priority) (λ e. rw e (led-ours e l)) (λ e. rw e (led-neither e l)))

  -- who beats us is Live
  none-live : (l : List Peer) → length (those is_live l) ≡ 0 → some_beats own l ≡ false
  none-live [] z = refl
  none-live (p ∷ l) z = by_cases p.proven (λ e. let k = rw e at z in absurd (omega arith)) (λ e. rw e (none-live l (rw e at z)))

module _ (own : Rank) (t : Table) where
  none-beats : eqb (live_count t) 0 ≡ true → some_beats own (entries t) ≡ false
  unfolding live_count
  none-beats e = none-live own (entries t) (eqb-true (live_count t) 0 e)

  pub theirs-beaten : is_theirs (elected own t) ≡ some_beats own (entries t)
  unfolding elected
  theirs-beaten =
      by_cases (eqb (live_count t) 0) (λ e. rw e (sym (none-beats e))) (λ e. rw e (won-settled own (entries t)).0)

  pub ours-unbeaten : is_ours (elected own t) ≡ not (eqb (live_count t) 0) && (may_lead own.priority && not (some_beats own (entries t)))
  unfolding elected
  ours-unbeaten = by_cases (eqb (live_count t) 0) (λ e. rw e) (λ e. rw e (won-settled own (entries t)).1)

  -- what the loop that counts and looks for one that beats us comes to
  pub stood : (live : ℕ) (ours theirs : Bool) → live ≡ live_count t → theirs ≡ some_beats own (entries t)
      → ours ≡ not (eqb live 0) && (may_lead own.priority && not theirs) → record { live = live; ours = ours; theirs = theirs } ≡ stand_of own t
  unfolding stand_of
  stood live ours theirs a b e =
      let o : ours ≡ is_ours (elected own t) = e ∙ rw (a, b) (sym ours-unbeaten) in
      let w : theirs ≡ is_theirs (elected own t) = b ∙ sym theirs-beaten in
      λ i. record { live = a i; ours = o i; theirs = w i }
