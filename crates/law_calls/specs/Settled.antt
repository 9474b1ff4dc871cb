-- Each call is a `settle` by its facts in their order, and the clock after it.
use Rattle.std.specs.Prelude.{ℕ, ◌≤◌, ◌≡◌, Bool, true, length, drop, Ok}
use Rattle.std.proofs.Math.Path.{refl}
use mathlib.Core.List.{List, [], ◌∷◌}
use Rattle.base_mi.specs.declared.Mi.{Mi}
use Rattle.law_lists.proofs.Laws.{by_cases}
use Rattle.participant.specs.declared.Participant.{Participant}
use Rattle.participant.specs.First.{NoneHolds, numbered}
use Rattle.participant.specs.declared.call.Called.{Called}
use Rattle.participant.specs.Call.{done_of, settle, fact1, aged_to}
use Rattle.call_tick.specs.Tick.{ticked}
use Rattle.participant.specs.Record.{first24, set_latest}
use Rattle.call_creation.specs.Create.{bad_start, fresh, empty_participant, created_of}
use Rattle.participant.specs.Keys.{with_key}
use Rattle.call_new_mi.specs.Renew.{renewed, new_mi_facts, new_mi_of}
use Rattle.call_report.specs.Report.{misreported, installed, report_facts, reported}
use Rattle.call_distribute.specs.Distribute.{with_fresh, distribute_facts, distributed_of}
use Rattle.participant.proofs.Settle.{on-done, timed-clock, timed-onward}

module _ (p : Participant) (time : ℕ) where
  pub tick-settles : ticked p time ≡ settle p ((1, fact1 p time) ∷ []) (aged_to p time)
  unfolding ticked
  tick-settles = refl

  pub distribute-settles : (w : List ℕ) → distributed_of p time w ≡ settle p (distribute_facts p time w) (with_fresh (aged_to p time) (first24 w))
  unfolding distributed_of
  distribute-settles w = refl

  pub new-mi-settles : (m : Mi) → new_mi_of p time m ≡ settle p (new_mi_facts p time m) (renewed p time m)
  unfolding new_mi_of
  new-mi-settles m = refl

pub report-settles : (p : Participant) (m : Mi) (kn : ℕ) (transmit : Bool) → reported p m kn transmit ≡ settle p (report_facts p m kn transmit) (set_latest (installed p.latest transmit) p)
unfolding reported
report-settles p m kn transmit = refl

pub create-settles : (time : ℕ) (mi : Mi) (sci priority capability : ℕ) (desired : Bool) (ckn : List ℕ)
    → created_of time mi sci priority capability desired ckn ≡ settle empty_participant ((15, bad_start (length ckn) capability) ∷ []) (fresh time mi sci priority capability desired ckn)
unfolding created_of
create-settles time mi sci priority capability desired ckn = refl

-- what an accepted call has become, and that none of its facts holds
pub accepted-settled : (p q : Participant) (fs : List (ℕ × Bool)) (r : Called (Unit {0})) → r ≡ settle p fs q → numbered fs ≡ true → r.answer ≡ Ok tt → (r ≡ done_of q) × NoneHolds fs
accepted-settled p q fs r e k d = rw e (on-done p q fs k (rw e at d))

module _ (p : Participant) (time : ℕ) where
  pub tick-clock : (ticked p time).answer ≡ Ok tt → (ticked p time).participant.clock ≡ time
  unfolding ticked aged_to
  tick-clock e = timed-clock p (done_of (aged_to p time)) time [] refl refl tt e

  pub tick-onward : p.clock ≤ (ticked p time).participant.clock
  unfolding ticked aged_to
  tick-onward = timed-onward p (done_of (aged_to p time)) time [] refl refl

  pub distribute-clock : (w : List ℕ) → (distributed_of p time w).answer ≡ Ok tt → (distributed_of p time w).participant.clock ≡ time
  unfolding distributed_of with_fresh with_key aged_to
  distribute-clock w e = timed-clock p (done_of (with_fresh (aged_to p time) (first24 w))) time (drop 1 (distribute_facts p time w)) refl refl tt e

  pub distribute-onward : (w : List ℕ) → p.clock ≤ (distributed_of p time w).participant.clock
  unfolding distributed_of with_fresh with_key aged_to
  distribute-onward w = timed-onward p (done_of (with_fresh (aged_to p time) (first24 w))) time (drop 1 (distribute_facts p time w)) refl refl

  pub new-mi-clock : (m : Mi) → (new_mi_of p time m).answer ≡ Ok tt → (new_mi_of p time m).participant.clock ≡ time
  unfolding new_mi_of renewed
  new-mi-clock m e = timed-clock p (done_of (renewed p time m)) time (drop 1 (new_mi_facts p time m)) refl refl tt e

  pub new-mi-onward : (m : Mi) → p.clock ≤ (new_mi_of p time m).participant.clock
  unfolding new_mi_of renewed
  new-mi-onward m = timed-onward p (done_of (renewed p time m)) time (drop 1 (new_mi_facts p time m)) refl refl

-- a report carries no time
pub report-clock : (p : Participant) (m : Mi) (kn : ℕ) (transmit : Bool) → (reported p m kn transmit).participant.clock ≡ p.clock
unfolding reported
report-clock p m kn transmit = by_cases (misreported p.latest m kn transmit) (λ b. rw b) (λ b. rw b)
