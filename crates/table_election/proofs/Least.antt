-- The elected Key Server is the least of those that may be elected, and the only such one.
use Prim.Native.Nat.{suc}
use mathlib.Core.Path.{◌≡◌, refl, ap, sym, subst, ◌∙◌}
use mathlib.Core.Bool.{Bool, true, false, cond, ◌&&◌}
use mathlib.Core.Logic.{◌⊎◌, inl, inr, ⊎_elim}
use mathlib.Core.List.Memᴰ
use mathlib.Core.List.{List, [], ◌∷◌, map, Memᴰ}
use Rattle.std.specs.Prelude.{Option, Some, None}
use native.Mathlib.Omega.{arith}
use lib.ListN.{length}
use lib.Dec.{eqb}
use borrow.Author.Tests.{eqb-true, eq-eqb, ne_eqb}
use Rattle.base_mi.specs.declared.Mi.{Mi}
use Rattle.table.specs.declared.Peer.{Peer}
use Rattle.table.specs.declared.Table.{Table}
use Rattle.table_election.specs.declared.Rank.{Rank}
use Rattle.table_election.specs.declared.Lead.{Lead}
use Rattle.table_election.specs.declared.Server.{Server}
use Rattle.table_election.specs.declared.Server.TheVariants.{Nobody, Ourselves, Elected}
use Rattle.law_lists.specs.Lists.{those, every}
use Rattle.table.specs.Table.{entries}
use Rattle.table_lookup.specs.Look.{is_live, is_potential, held_in, live_for}
use Rattle.table_counts.specs.Counts.{live_count}
use Rattle.table_election.specs.Elect.{lower, rank_of, Candidate, ourselves, peer_of, may_lead, eligible, contenders, candidates, least, winner, elected}
use Rattle.table_election.specs.Least.{Least}
use Rattle.table_election.specs.Lead.{by_us, by_peer, leader, led, ranks, server_led, first_lead}
use Rattle.table_expiry.specs.Kept.{absent, distinct}
use Rattle.law_lists.proofs.Laws.{by_cases, clash, never, first-of, mem-those, those-mem, mem-map}
use Rattle.law_kept.specs.Apart.{absent-clash, held-member}
use Rattle.table_election.proofs.Order.{lower-ntrans, lower-asym, lower-irrefl, lower-total}

-- a Live peer with the flag may be elected unless its priority is 255
pub eligible-flagged : (p : Peer) → is_live p ≡ true → p.server ≡ true → eligible p ≡ may_lead p.priority
eligible-flagged p a b = rw (a, b)

-- a fact of a test, by its two answers, where `rw` doesn't find the test
pub either_way {ℓ} : (P : Bool → Type ℓ) → P true → P false → (t : Bool) → P t
either_way P a b true = a
either_way P a b false = b

-- ---- who leads at the end wins

-- one peer after the other: those that may be elected challenge
led-ranks : (l : List Peer) (lead : Option Lead) → led lead l ≡ leader lead (ranks l)
led-ranks [] lead = refl
led-ranks (p ∷ l) lead = by_cases (eligible p) (λ e. rw e (led-ranks l _)) (λ e. rw e (led-ranks l lead))

-- who leads, as a candidate
abbrev leading : Lead → Candidate
leading q = record { who = cond q.ours Ourselves (Elected q.rank.mi); rank = q.rank }

led-least : (q : Lead) (ps : List Peer) → server_led (leader (Some q) (map rank_of ps)) ≡ (least (leading q) (map peer_of ps)).who
led-least q [] = refl
led-least q (p ∷ ps) =
    either_way (λ t. server_led (leader (cond t (Some (by_peer (rank_of p))) (Some q)) (map rank_of ps)) ≡ (least (cond t (peer_of p) (leading q)) (map peer_of ps)).who)
    (led-least (by_peer (rank_of p)) ps) (led-least q ps) (lower (rank_of p) q.rank)

led-peers : (ps : List Peer) → server_led (leader None (map rank_of ps)) ≡ winner (map peer_of ps)
led-peers [] = refl
led-peers (p ∷ ps) = led-least (by_peer (rank_of p)) ps

pub led-winner : (own : Rank) (l : List Peer) → server_led (leader (first_lead own) (ranks l)) ≡ winner (candidates own l)
led-winner own l = by_cases (may_lead own.priority) (λ e. rw e (led-least (by_us own) (those eligible l))) (λ e. rw e (led-peers (those eligible l)))

-- ---- the winner is the least

least-among : (c : Candidate) (cs : List Candidate) → Memᴰ (least c cs) (c ∷ cs)
least-among c [] = Memᴰ.head refl
least-among c (d ∷ ds) =
    by_cases (lower d.rank c.rank)
    (λ e. Memᴰ.tail (rw e (least-among d ds)))
    (λ e. ⊎_elim (λ s. Memᴰ.head (rw e s)) (λ m. Memᴰ.tail (Memᴰ.tail (rw e m))) (Memᴰ.cases_cons (least-among c ds)))

-- a rank that neither c nor those that follow are lower than
abbrev Lowest : Candidate → List Candidate → Rank → Type 0
Lowest c cs r = (lower c.rank r ≡ false) × ((d : Candidate) → Memᴰ d cs → lower d.rank r ≡ false)

least-lowest : (c : Candidate) (cs : List Candidate) → Lowest c cs (least c cs).rank
least-lowest c [] = (lower-irrefl c.rank, λ d m. absurd (Memᴰ.not-nil m))
least-lowest c (d ∷ ds) =
    either_way (λ t. lower d.rank c.rank ≡ t → Lowest c (d ∷ ds) (least (cond t d c) ds).rank)
    (λ e.
    let b = least-lowest d ds in
    (lower-ntrans c.rank d.rank _ (lower-asym d.rank c.rank e) b.0, λ x m. ⊎_elim (λ s. rw s b.0) (b.1 x) (Memᴰ.cases_cons m)))
    (λ e.
    let b = least-lowest c ds in
    (b.0, λ x m. ⊎_elim (λ s. rw s (lower-ntrans d.rank c.rank _ e b.0)) (b.1 x) (Memᴰ.cases_cons m)))
    (lower d.rank c.rank) refl

abbrev Won : Rank → List Peer → Type 0
Won own l = (c : Candidate) × Least own l c × (winner (candidates own l) ≡ c.who)

won : (own : Rank) (l : List Peer) (cs : List Candidate) → candidates own l ≡ cs → (candidates own l ≡ []) ⊎ Won own l
won own l [] e = inl e
won own l (c ∷ ds) e =
    let b = least-lowest c ds in
    let lowest : (d : Candidate) → Memᴰ d (c ∷ ds) → lower d.rank (least c ds).rank ≡ false = λ d m. ⊎_elim (λ s. rw s b.0) (b.1 d) (Memᴰ.cases_cons m) in
    inr (least c ds, record { among = rw e (least-among c ds); lowest = rw e lowest }, ap winner e)

-- who a candidate is
abbrev Stands : List Peer → Candidate → Type 0
Stands l c = (p : Peer) × Memᴰ p l × (eligible p ≡ true) × (peer_of p ≡ c)

stands : (l : List Peer) (c : Candidate) → Memᴰ c (contenders l) → Stands l c
stands l c m =
    let r = mem-map peer_of (those eligible l) m in
    let k = mem-those eligible l r.1 in
    (r.0, k.0, k.1, r.2)

who-stands : (own : Rank) (l : List Peer) (c : Candidate) → Memᴰ c (candidates own l) → (c ≡ ourselves own) ⊎ Stands l c
who-stands own l c m =
    by_cases (may_lead own.priority)
    (λ e. ⊎_elim inl (λ k. inr (stands l c k)) (Memᴰ.cases_cons (rw e at m)))
    (λ e. inr (stands l c (rw e at m)))

by-server {ℓ} : {C : Type ℓ} (x : Server) → (x ≡ Nobody → C) → (x ≡ Ourselves → C) → ((m : Mi) → x ≡ Elected m → C) → C
by-server Nobody n o t = n refl
by-server Ourselves n o t = o refl
by-server (Elected m) n o t = t m refl

-- none is Live where each is Potential
none-counted : (l : List Peer) → every is_potential l ≡ eqb (length (those is_live l)) 0
none-counted [] = refl
none-counted (p ∷ l) = by_cases p.proven (λ e. rw e (sym (ne_eqb (suc (length (those is_live l))) 0 (λ z. omega arith)))) (λ e. rw e (none-counted l))

module _ (own : Rank) (t : Table) where
  -- what the code asks, and what it answers then
  pub elected-none : every is_potential (entries t) ≡ true → elected own t ≡ Nobody
  unfolding elected live_count
  elected-none e = rw (sym (none-counted (entries t)) ∙ e)

  pub elected-led : every is_potential (entries t) ≡ false → elected own t ≡ server_led (led (first_lead own) (entries t))
  unfolding elected live_count
  elected-led e = rw (sym (none-counted (entries t)) ∙ e, led-ranks (entries t), led-winner own (entries t))

  with_none : eqb (live_count t) 0 ≡ true → elected own t ≡ Nobody
  unfolding elected
  with_none e = rw e

  with-some : eqb (live_count t) 0 ≡ false → elected own t ≡ winner (candidates own (entries t))
  unfolding elected
  with-some e = rw e

  -- nobody only with no Live peer or none that may be elected
  pub elected-nobody : elected own t ≡ Nobody → (live_count t ≡ 0) ⊎ (candidates own (entries t) ≡ [])
  elected-nobody e =
      by_cases (eqb (live_count t) 0)
      (λ z. inl (eqb-true (live_count t) 0 z))
      (λ z. ⊎_elim inr
      (λ w. ⊎_elim
      (λ s. never (cc (with-some z, w.2, ap (λ (c : Candidate). c.who) s)))
      (λ s. never (cc (with-some z, w.2, ap (λ (c : Candidate). c.who) s.3)))
      (who-stands own (entries t) w.0 w.1.among))
      (won own (entries t) _ refl))

  -- ourselves only with a Live peer, and as the least
  pub elected-ourselves : elected own t ≡ Ourselves → (eqb (live_count t) 0 ≡ false) × Least own (entries t) (ourselves own)
  elected-ourselves e =
      by_cases (eqb (live_count t) 0)
      (λ z. never (cc (with_none z)))
      (λ z. ⊎_elim
      (λ k. never (cc (with-some z, ap winner k)))
      (λ w. ⊎_elim
      (λ s. (z, subst (Least own (entries t)) s w.1))
      (λ s. never (cc (with-some z, w.2, ap (λ (c : Candidate). c.who) s.3)))
      (who-stands own (entries t) w.0 w.1.among))
      (won own (entries t) _ refl))

  -- a peer only if it is Live, has the flag and isn't of 255, and as the least
  pub elected-peer : (m : Mi) → elected own t ≡ Elected m
      → (p : Peer) × Memᴰ p (entries t) × (eligible p ≡ true) × (p.mi ≡ m) × Least own (entries t) (peer_of p)
  elected-peer m e =
      by_cases (eqb (live_count t) 0)
      (λ z. never (cc (with_none z)))
      (λ z. ⊎_elim
      (λ k. never (cc (with-some z, ap winner k)))
      (λ w. ⊎_elim
      (λ s. never (cc (with-some z, w.2, ap (λ (c : Candidate). c.who) s)))
      (λ s.
      let named : s.0.mi ≡ m = cc (with-some z, w.2, ap (λ (c : Candidate). c.who) s.3) in
      (s.0, s.1, s.2, named, subst (Least own (entries t)) (sym s.3) w.1))
      (who-stands own (entries t) w.0 w.1.among))
      (won own (entries t) _ refl))

  -- so looking an elected peer up finds it Live
  pub elected-live : (m : Mi) → distinct (entries t) ≡ true → elected own t ≡ Elected m → live_for (held_in m t) ≡ true
  elected-live m d e =
      let r = elected-peer m e in
      let p = r.0 in
      let k = held-member p t d r.1 in
      ap (λ (x : Mi). live_for (held_in x t)) (sym r.3) ∙ ap live_for k.1 ∙ first-of (is_live p) (p.server && may_lead p.priority) r.2

-- ---- the only one

-- there is one least rank
pub least-one : (own : Rank) (l : List Peer) (c d : Candidate) → Least own l c → Least own l d → c.rank ≡ d.rank
least-one own l c d a b = lower-total c.rank d.rank (b.lowest c a.among) (a.lowest d b.among)

some-there {ℓ} : {C : Type ℓ} {p : Peer} (l : List Peer) → Memᴰ p l → length l ≡ 0 → C
some-there [] m z = absurd (Memᴰ.not-nil m)
some-there (x ∷ l) m z = absurd (omega arith)

-- the least peer is elected
module _ (own : Rank) (t : Table) (never-ours : absent own.mi (entries t) ≡ true) where
  live-some {ℓ} : {C : Type ℓ} (p : Peer) → Memᴰ p (entries t) → is_live p ≡ true → live_count t ≡ 0 → C
  unfolding live_count
  live-some p m e z = some-there (those is_live (entries t)) (those-mem is_live (entries t) m e) z

  pub peer-elected : (p : Peer) → Memᴰ p (entries t) → eligible p ≡ true → Least own (entries t) (peer_of p) → elected own t ≡ Elected p.mi
  peer-elected p m e b =
      by-server (elected own t)
      (λ s. ⊎_elim
      (λ z. live-some p m (first-of (is_live p) (p.server && may_lead p.priority) e) z)
      (λ z. absurd (Memᴰ.not-nil (rw z at b.among)))
      (elected-nobody own t s))
      (λ s.
      let k = least-one own (entries t) (ourselves own) (peer_of p) (elected-ourselves own t s).1 b in
      absent-clash own.mi (entries t) p never-ours m (ap (λ (x : Rank). x.mi) k))
      (λ n s.
      let r = elected-peer own t n s in
      let k = least-one own (entries t) (peer_of r.0) (peer_of p) r.4 b in
      s ∙ ap Elected (sym r.3 ∙ ap (λ (x : Rank). x.mi) k))

  -- and so are we, where we are the least and a peer is Live
  pub ourselves-elected : eqb (live_count t) 0 ≡ false → Least own (entries t) (ourselves own) → elected own t ≡ Ourselves
  ourselves-elected live b =
      by-server (elected own t)
      (λ s. ⊎_elim
      (λ z. clash (sym live ∙ eq-eqb (live_count t) 0 z))
      (λ z. absurd (Memᴰ.not-nil (rw z at b.among)))
      (elected-nobody own t s))
      (λ s. s)
      (λ n s.
      let r = elected-peer own t n s in
      let k = least-one own (entries t) (ourselves own) (peer_of r.0) b r.4 in
      absent-clash own.mi (entries t) r.0 never-ours r.1 (ap (λ (x : Rank). x.mi) k))
