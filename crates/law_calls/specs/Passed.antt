-- The facts that an accepted call passed, by name.
use Rattle.std.specs.Prelude.{ℕ, ◌≤◌, ◌≡◌, Bool, true, false, List, length, eqb, ltb}
use Rattle.std.proofs.Common.{ltb-false}
use Rattle.std.proofs.lemmas.Bool.{not-false}
use Rattle.base_facts.specs.Numbers.{last_number}
use Rattle.base_mi.specs.Mi.{mi_same}
use Rattle.base_mi.specs.declared.Mi.{Mi}
use Rattle.table_lookup.specs.Look.{stale_for, no_room_for}
use Rattle.participant.specs.Call.{aged_to}
use Rattle.participant.specs.declared.Participant.{Participant}
use Rattle.participant.specs.First.{NoneHolds}
use Rattle.call_standing.specs.Standing.{fresh_due}
use Rattle.call_new_mi.specs.Renew.{in_use, new_mi_facts}
use Rattle.call_distribute.specs.Distribute.{distribute_facts}
use Rattle.call_judge.specs.Judge.{basic_in, frame_facts}
use Rattle.call_receive.specs.Receive.{table_facts, receive_facts}
use Rattle.call_accept.specs.Accept.{held_at}
use Rattle.call_send.specs.Send.{frame_at, send_facts}

-- 1, and what is judged on the table: 10, 11, 12
pub record ReceivePassed (p : Participant) (time : ℕ) (s : List ℕ) : Type 0 where
  pub onward : p.clock ≤ time
  pub other : mi_same p.mi (basic_in s).mi ≡ false
  pub above : stale_for (held_at p time (basic_in s)) (basic_in s).mn ≡ false
  pub room : no_room_for (held_at p time (basic_in s)) (aged_to p time).table ≡ false

pub receive-passed : (p : Participant) (time : ℕ) (verdict : Bool) (s : List ℕ) → NoneHolds (receive_facts p time verdict s) → ReceivePassed p time s
unfolding receive_facts frame_facts table_facts
receive-passed p time verdict s h =
    let table = h.1.1.1.1.1.1.1.1.1 in
    record { onward = ltb-false time p.clock h.0; other = table.0; above = table.1.0; room = table.1.1.0 }

-- 1, 14, 13
pub record SendPassed (p : Participant) (time latest_pn old_pn room : ℕ) : Type 0 where
  pub onward : p.clock ≤ time
  pub mn : eqb p.mn last_number ≡ false
  pub fits : ltb room (length (frame_at p time latest_pn old_pn)) ≡ false

pub send-passed : (p : Participant) (time latest_pn old_pn room : ℕ) → NoneHolds (send_facts p time latest_pn old_pn room) → SendPassed p time latest_pn old_pn room
unfolding send_facts
send-passed p time l o room h = record { onward = ltb-false time p.clock h.0; mn = h.1.0; fits = h.1.1.0 }

-- 1, 15, 17, 14
pub record DistributePassed (p : Participant) (time : ℕ) : Type 0 where
  pub onward : p.clock ≤ time
  pub due : fresh_due (aged_to p time) ≡ true
  pub kn : eqb p.kn last_number ≡ false

pub distribute-passed : (p : Participant) (time : ℕ) (w : List ℕ) → NoneHolds (distribute_facts p time w) → DistributePassed p time
distribute-passed p time w h =
    record { onward = ltb-false time p.clock h.0; due = not-false (fresh_due (aged_to p time)) h.1.1.0; kn = h.1.1.1.0 }

-- 1, 19
pub record RenewPassed (p : Participant) (time : ℕ) (m : Mi) : Type 0 where
  pub onward : p.clock ≤ time
  pub unused : in_use p m ≡ false

pub renew-passed : (p : Participant) (time : ℕ) (m : Mi) → NoneHolds (new_mi_facts p time m) → RenewPassed p time m
renew-passed p time m h = record { onward = ltb-false time p.clock h.0; unused = h.1.0 }
