-- One call: its facts in their order and what it makes of the participant, so that each proof over a history has two cases.
use Rattle.std.specs.Prelude.{ℕ, ◌≡◌, Bool, true, false, cond, List, [], ◌∷◌, length, eqb, ltb, Ok}
use Rattle.std.proofs.Math.Path.{refl}
use Rattle.std.proofs.Common.{sym, ◌∙◌, eqb-true}
use Rattle.base_facts.specs.Facts.{first_of}
use Rattle.base_facts.specs.Refusal.{told}
use Rattle.base_facts.proofs.Laws.{known}
use Rattle.std.specs.Result.{is_ok}
use Rattle.participant.specs.Call.{refused_of, fact1, aged_to}
use Rattle.call_tick.specs.Tick.{ticked}
use Rattle.participant.specs.Record.{first24, set_latest}
use Rattle.call_new_mi.specs.Renew.{renewed, new_mi_facts, new_mi_of}
use Rattle.call_report.specs.Report.{installed, report_facts, reported}
use Rattle.call_distribute.specs.Distribute.{with_fresh, distribute_facts, distributed_of}
use Rattle.participant.specs.declared.Participant.{Participant}
use Rattle.participant.specs.declared.call.Called.{Called}
use Rattle.participant.specs.First.{NoneHolds, numbered}
use Rattle.participant.proofs.Settle.{none-holds}
use Rattle.call_judge.specs.Judge.{basic_in, walk_in, places_in, frame_facts}
use Rattle.call_receive.specs.Receive.{table_facts, receive_facts, received_of}
use Rattle.call_accept.specs.Accept.{accepted_by}
use Rattle.call_send.specs.Send.{send_facts, sent_at, sent_of}
use Rattle.base_octets.specs.Run.{written}
use Rattle.image.specs.Image.{image_of}
use Rattle.law_history.specs.Calls.{Call, receives, sends, distributes, ticks, renews, reports, asks, saves, answered, accepts}

-- The facts that refuse a call, in their order.
abbrev pub facts : Participant → Call → List (ℕ × Bool)
facts p (receives time verdict frame) = receive_facts p time verdict frame
facts p (sends time latest_pn old_pn out) = send_facts p time latest_pn old_pn (length out)
facts p (distributes time wrapped) = distribute_facts p time wrapped
facts p (ticks time) = (1, fact1 p time) ∷ []
facts p (renews time m) = new_mi_facts p time m
facts p (reports m kn transmit) = report_facts p m kn transmit
facts p asks = []
facts p (saves out) = (13, ltb (length out) (length (image_of p))) ∷ []

-- What the participant becomes where none holds.
abbrev pub becomes : Participant → Call → Participant
becomes p (receives time verdict frame) = (accepted_by p time frame (basic_in frame) (places_in (walk_in frame))).participant
becomes p (sends time latest_pn old_pn out) = sent_at p time
becomes p (distributes time wrapped) = with_fresh (aged_to p time) (first24 wrapped)
becomes p (ticks time) = aged_to p time
becomes p (renews time m) = renewed p time m
becomes p (reports m kn transmit) = set_latest (installed p.latest transmit) p
becomes p asks = p
becomes p (saves out) = p

-- a call's answer, by the test whether the first fact's number is 0
called-cases : {A : Type 0} (t : Bool) (p q : Participant) (n : ℕ) (x : A) → let r : Called A = cond t (record { participant = q; answer = Ok x }) (refused_of p n) in
    (is_ok r.answer ≡ t) × (r.participant ≡ cond t q p)
called-cases true p q n x = (refl, refl)
called-cases false p q n x = (refl, refl)

saved-cases : (t : Bool) (p : Participant) (n : ℕ) (out : List ℕ) → let s = eqb (first_of ((13, t) ∷ [])) 0 in
    (is_ok (told (first_of ((13, t) ∷ [])) n) ≡ s) × (p ≡ cond s p p)
saved-cases true p n out = (refl, refl)
saved-cases false p n out = (refl, refl)

module _ (p : Participant) where
  -- a call is accepted exactly where no fact holds, and then becomes; else nothing changes
  settles : (c : Call) → let t = eqb (first_of (facts p c)) 0 in (accepts p c ≡ t) × (answered p c ≡ cond t (becomes p c) p)
  unfolding received_of sent_of distributed_of ticked new_mi_of reported
  settles (receives time verdict frame) = let n = first_of (facts p (receives time verdict frame)) in called-cases (eqb n 0) p _ n _
  settles (sends time latest_pn old_pn out) = let n = first_of (facts p (sends time latest_pn old_pn out)) in called-cases (eqb n 0) p _ n _
  settles (distributes time wrapped) = let n = first_of (facts p (distributes time wrapped)) in called-cases (eqb n 0) p _ n _
  settles (ticks time) = let n = first_of (facts p (ticks time)) in called-cases (eqb n 0) p _ n _
  settles (renews time m) = let n = first_of (facts p (renews time m)) in called-cases (eqb n 0) p _ n _
  settles (reports m kn transmit) = let n = first_of (facts p (reports m kn transmit)) in called-cases (eqb n 0) p _ n _
  settles asks = (refl, refl)
  settles (saves out) = saved-cases (ltb (length out) (length (image_of p))) p (length (image_of p)) (written out (image_of p))

  pub facts-numbered : (c : Call) → numbered (facts p c) ≡ true
  unfolding receive_facts frame_facts table_facts send_facts
  facts-numbered (receives time verdict frame) = refl
  facts-numbered (sends time latest_pn old_pn out) = refl
  facts-numbered (distributes time wrapped) = refl
  facts-numbered (ticks time) = refl
  facts-numbered (renews time m) = refl
  facts-numbered (reports m kn transmit) = refl
  facts-numbered asks = refl
  facts-numbered (saves out) = refl

  pub facts-known : (c : Call) → known (facts p c) ≡ true
  unfolding receive_facts frame_facts table_facts send_facts
  facts-known (receives time verdict frame) = refl
  facts-known (sends time latest_pn old_pn out) = refl
  facts-known (distributes time wrapped) = refl
  facts-known (ticks time) = refl
  facts-known (renews time m) = refl
  facts-known (reports m kn transmit) = refl
  facts-known asks = refl
  facts-known (saves out) = refl

  pub refused-leaves : (c : Call) → accepts p c ≡ false → answered p c ≡ p
  refused-leaves c e = let s = settles c in s.1 ∙ rw (sym s.0 ∙ e)

  pub accepted-becomes : (c : Call) → accepts p c ≡ true → answered p c ≡ becomes p c
  accepted-becomes c e = let s = settles c in s.1 ∙ rw (sym s.0 ∙ e)

  pub accepted-zero : (c : Call) → accepts p c ≡ true → first_of (facts p c) ≡ 0
  accepted-zero c e = eqb-true (first_of (facts p c)) 0 (sym (settles c).0 ∙ e)

  pub accepted-none : (c : Call) → accepts p c ≡ true → NoneHolds (facts p c)
  accepted-none c e = none-holds (facts p c) (facts-numbered c) (accepted-zero c e)
