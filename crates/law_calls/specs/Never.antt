-- What can't happen: MN and KN never wrap, and a sender that is ours is never entered. Proved in NeverArgument.
use Rattle.std.specs.Prelude.{ℕ, ◌+◌, ◌^◌, ◌<◌, ◌≡◌, Bool, false, List, Ok}
use Rattle.base_facts.specs.Facts.{first_of}
use Rattle.base_mi.specs.Mi.{mi_same}
use Rattle.participant.specs.declared.Participant.{Participant}
use Rattle.call_distribute.specs.Distribute.{distributed_of}
use Rattle.call_judge.specs.Judge.{basic_in}
use Rattle.call_receive.specs.Receive.{receive_facts}
use Rattle.call_send.specs.Send.{send_facts}

-- fact 10: a frame that is accepted has not our identifier
abbrev pub NotOurs : Type 0
NotOurs = (p : Participant) (time : ℕ) (verdict : Bool) (s : List ℕ) → first_of (receive_facts p time verdict s) ≡ 0 → mi_same p.mi (basic_in s).mi ≡ false

-- fact 14: a message number that rises is below its limit
abbrev pub MnFits : Type 0
MnFits = (p : Participant) (time latest_pn old_pn room : ℕ) → p.mn < 2 ^ 32 → first_of (send_facts p time latest_pn old_pn room) ≡ 0 → p.mn + 1 < 2 ^ 32

-- and so is a key number
abbrev pub KnFits : Type 0
KnFits = (p : Participant) (time : ℕ) (w : List ℕ) → p.kn < 2 ^ 32 → (distributed_of p time w).answer ≡ Ok tt → p.kn + 1 < 2 ^ 32
