-- Why: a key is entered by one of two calls, each with what it hands out; later calls keep it, drop it or set its flags.
use Rattle.std.specs.Prelude.{ℕ, ◌+◌, ◌≡◌, refl, Bool, false, ◌&&◌, eqb, Ok, Some}
use Rattle.std.proofs.Math.Path.{ap}
use Rattle.std.proofs.Common.{◌∙◌}
use Rattle.std.proofs.Math.Bool.{true}
use mathlib.Core.List.{List, [], ◌∷◌}
use Rattle.std.proofs.Math.Logic.{inl, inr}
use borrow.Author.Tests.{eqb-false}
use Rattle.base_mi.specs.declared.Mi.{Mi}
use Rattle.table_expiry.specs.Kept.{Kept}
use Rattle.table_expiry.proofs.Rules.{kept-rules}
use Rattle.table_lookup.specs.Look.{held_in, live_for}
use Rattle.table_election.specs.declared.Server.{Server}
use Rattle.table_election.specs.declared.Server.TheVariants.{Nobody, Ourselves, Elected}
use Rattle.law_lists.proofs.Laws.{by_cases, clash, first-of}
use Rattle.law_kept.specs.Same.{same-eq}
use Rattle.table_election.proofs.Least.{elected-live}
use Rattle.call_standing.specs.Standing.{own_rank, server_of, elected_self, pause_over, fresh_due}
use Rattle.participant.specs.Call.{aged_to}
use Rattle.call_creation.specs.Create.{fresh}
use Rattle.participant.specs.Record.{first24}
use Rattle.call_new_mi.specs.Renew.{renewed}
use Rattle.call_report.specs.Report.{installed}
use Rattle.call_distribute.specs.Distribute.{confidentiality_of, fresh_key, with_fresh}
use Rattle.participant.specs.Keys.{no_slot, with_key, without_keys}
use Rattle.participant.specs.declared.Key.{Key}
use Rattle.participant.specs.declared.Slot.{Slot}
use Rattle.participant.specs.declared.Participant.{Participant}
use Rattle.law_calls.specs.Passed.{distribute-passed}
use Rattle.call_judge.specs.Judge.{basic_in}
use Rattle.call_hearing.specs.Keys.{is_peer, is_server, key_from}
use Rattle.call_accept.specs.Accept.{admitted, updated_by, accepted_by}
use Rattle.call_send.specs.Send.{sent_at}
use Rattle.law_history.specs.Calls.{Creation, created, Call, receives, sends, distributes, ticks, renews, reports, asks, saves, after, accepted}
use Rattle.law_history.specs.Steps.{becomes, accepted-none}
use Rattle.law_history.proofs.Becomes.{updated_in, by-keyed}
use Rattle.law_history.proofs.Splits.{start, own, distributed, capable, made-now, made-before, after-accepted, after-refused}
use Rattle.law_history.proofs.TableArgument.{keeps}
use Rattle.frame_places.specs.declared.Spot.{Spot}
use Rattle.law_history.specs.Keys.{CameFrom, sak_spot, sak_read, LatestHandedOut, OldHandedOut}

-- ---- what a history has said stays said; reports change only the flags

-- the same key but for its flags
pub record Same (a b : Key) : Type 0 where
  pub mi : a.mi ≡ b.mi
  pub kn : a.kn ≡ b.kn
  pub an : a.an ≡ b.an
  pub confidentiality : a.confidentiality ≡ b.confidentiality
  pub suite : a.suite ≡ b.suite

same_key : (a : Key) → Same a a
same_key a = record { mi = refl; kn = refl; an = refl; confidentiality = refl; suite = refl }

later-handed : (k : Creation) (cs : List Call) (c : Call) (a b : Key) → Same b a → CameFrom k cs a → CameFrom k (c ∷ cs) b
later-handed k cs c a b s (inl o) =
    inl (record {
      time = o.time;
      wrapped = o.wrapped;
      made = made-before k cs c (distributes o.time o.wrapped) o.made;
      elected = o.elected;
      mi = s.mi ∙ o.mi;
      kn = s.kn ∙ o.kn;
      an = s.an ∙ o.an;
      confidentiality = s.confidentiality ∙ o.confidentiality;
      suite = s.suite ∙ o.suite;
    })
later-handed k cs c a b s (inr t) =
    inr (record {
      time = t.time;
      verdict = t.verdict;
      frame = t.frame;
      made = made-before k cs c (receives t.time t.verdict t.frame) t.made;
      live = rw s.mi t.live;
      elected = rw s.mi t.elected;
      spot = t.spot;
      present = t.present;
      filled = t.filled;
      mi = s.mi ∙ t.mi;
      kn = s.kn ∙ t.kn;
      an = s.an ∙ t.an;
      confidentiality = s.confidentiality ∙ t.confidentiality;
      suite = s.suite ∙ t.suite;
    })

-- the key of a slot, if it holds one
abbrev Known : Creation → List Call → Slot → Type 0
Known k cs s = s.held ≡ true → CameFrom k cs s.key

later-known : (k : Creation) (cs : List Call) (c : Call) (s : Slot) → Known k cs s → Known k (c ∷ cs) s
later-known k cs c s h e = later-handed k cs c s.key s.key (same_key s.key) (h e)

later-installed : (k : Creation) (cs : List Call) (c : Call) (s : Slot) (transmit : Bool) → Known k cs s → Known k (c ∷ cs) (installed s transmit)
unfolding installed
later-installed k cs c s transmit h e =
    later-handed k cs c s.key (installed s transmit).key (record { mi = refl; kn = refl; an = refl; confidentiality = refl; suite = refl }) (h e)

none-known : (k : Creation) (cs : List Call) → Known k cs no_slot
unfolding no_slot
none-known k cs e = clash e

-- ---- the two that hand out

server-is : (x : Server) (m : Mi) → is_peer x m ≡ true → x ≡ Elected m
server-is Nobody m e = clash e
server-is Ourselves m e = clash e
server-is (Elected y) m e = ap Elected (same-eq y m e)

-- neither the keys nor what goes with distributing has a say in the election
fresh-elected : (q : Participant) (w : List ℕ) → elected_self (with_fresh q w) ≡ elected_self q
unfolding elected_self server_of with_fresh with_key
fresh-elected q w = refl

keyed-server : (q : Participant) (key : Key) → server_of (with_key q key) ≡ server_of q
unfolding server_of with_key
keyed-server q key = refl

server-live : (p : Participant) (m : Mi) → Kept p.mi p.clock p.table → server_of p ≡ Elected m → live_for (held_in m p.table) ≡ true
unfolding server_of
server-live p m k e = elected-live (own_rank p) p.table m (kept-rules k).apart e

module _ (k : Creation) (ok : (created k).answer ≡ Ok tt) where
  ours-now : (cs : List Call) (time : ℕ) (w : List ℕ) → accepted k cs (distributes time w) ≡ true → CameFrom k (distributes time w ∷ cs) (fresh_key (aged_to (after k cs) time))
  unfolding fresh_key fresh_due aged_to
  ours-now cs time w e =
      let c = distributes time w in
      let p = after k cs in
      let q = aged_to p time in
      let due = (distribute-passed p time w (accepted-none p c e)).due in
      let el : elected_self q ≡ true = first-of (elected_self q) (q.mark && pause_over q) due in
      inl (record {
        time = time;
        wrapped = w;
        made = made-now k cs c e;
        elected = ap elected_self (after-accepted k cs c e) ∙ fresh-elected q (first24 w) ∙ el;
        mi = own k ok cs;
        kn = ap (λ (n : ℕ). n + 1) (distributed k ok cs);
        an = refl;
        confidentiality = ap confidentiality_of (capable k ok cs);
        suite = refl;
      })

  theirs-now : (cs : List Call) (time : ℕ) (verdict : Bool) (frame : List ℕ) → accepted k cs (receives time verdict frame) ≡ true
      → (spot : Spot) → sak_spot frame ≡ Some spot → is_server (updated_in (after k cs) time frame) (basic_in frame).mi ≡ true → eqb spot.len 0 ≡ false
      → becomes (after k cs) (receives time verdict frame) ≡ with_key (updated_in (after k cs) time frame) (key_from (basic_in frame).mi (sak_read frame spot))
      → CameFrom k (receives time verdict frame ∷ cs) (key_from (basic_in frame).mi (sak_read frame spot))
  unfolding is_server key_from
  theirs-now cs time verdict frame e spot a b d x =
      let c = receives time verdict frame in
      let q = updated_in (after k cs) time frame in
      let key = key_from (basic_in frame).mi (sak_read frame spot) in
      let el : server_of (after k (c ∷ cs)) ≡ Elected (basic_in frame).mi =
      ap server_of (after-accepted k cs c e ∙ x) ∙ keyed-server q key ∙ server-is (server_of q) (basic_in frame).mi b in
      inr (record {
        time = time;
        verdict = verdict;
        frame = frame;
        made = made-now k cs c e;
        live = server-live (after k (c ∷ cs)) (basic_in frame).mi (keeps k (c ∷ cs)) el;
        elected = el;
        spot = spot;
        present = a;
        filled = eqb-false spot.len 0 d;
        mi = refl;
        kn = refl;
        an = refl;
        confidentiality = refl;
        suite = refl;
      })

  -- ---- each call

  abbrev BothKnown : List Call → Participant → Type 0
  BothKnown cs p = Known k cs p.latest × Known k cs p.old

  received-known : (cs : List Call) (time : ℕ) (verdict : Bool) (frame : List ℕ) → accepted k cs (receives time verdict frame) ≡ true → BothKnown cs (after k cs)
      → BothKnown (receives time verdict frame ∷ cs) (becomes (after k cs) (receives time verdict frame))
  unfolding accepted_by updated_by admitted aged_to with_key without_keys
  received-known cs time verdict frame e h =
      let c = receives time verdict frame in
      let p = after k cs in
      let q = updated_in p time frame in
      by-keyed q frame (basic_in frame).mi (sak_spot frame)
      (λ x. rw x (later-known k cs c p.latest h.0, later-known k cs c p.old h.1))
      (λ x. rw x (none-known k (c ∷ cs), none-known k (c ∷ cs)))
      (λ spot a b d x. rw x ((λ t. theirs-now cs time verdict frame e spot a b d x), later-known k cs c p.latest h.0))

  becomes-known : (cs : List Call) (c : Call) → accepted k cs c ≡ true → BothKnown cs (after k cs) → BothKnown (c ∷ cs) (becomes (after k cs) c)
  unfolding sent_at aged_to with_fresh with_key renewed
  becomes-known cs (receives time verdict frame) e h = received-known cs time verdict frame e h
  becomes-known cs (sends time latest_pn old_pn out) e h = (later-known k cs _ _ h.0, later-known k cs _ _ h.1)
  becomes-known cs (distributes time w) e h = ((λ t. ours-now cs time w e), later-known k cs _ _ h.0)
  becomes-known cs (ticks time) e h = (later-known k cs _ _ h.0, later-known k cs _ _ h.1)
  becomes-known cs (renews time m) e h = (later-known k cs _ _ h.0, later-known k cs _ _ h.1)
  becomes-known cs (reports m kn transmit) e h = (later-installed k cs _ _ transmit h.0, later-known k cs _ _ h.1)
  becomes-known cs asks e h = (later-known k cs _ _ h.0, later-known k cs _ _ h.1)
  becomes-known cs (saves out) e h = (later-known k cs _ _ h.0, later-known k cs _ _ h.1)

  known : (cs : List Call) → BothKnown cs (after k cs)
  unfolding fresh
  known [] = rw (start k ok) (none-known k [], none-known k [])
  known (c ∷ cs) =
      by_cases (accepted k cs c)
      (λ e. rw (after-accepted k cs c e) (becomes-known cs c e (known cs)))
      (λ e. rw (after-refused k cs c e) (later-known k cs c _ (known cs).0, later-known k cs c _ (known cs).1))

pub latest-handed-out : LatestHandedOut
latest-handed-out k ok cs = (known k ok cs).0

pub old-handed-out : OldHandedOut
old-handed-out k ok cs = (known k ok cs).1
