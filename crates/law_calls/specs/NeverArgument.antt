-- Why: by the facts that an accepted call passed.
use Rattle.std.specs.Prelude.{ℕ, ◌+◌, ◌^◌, ◌<◌, ◌≡◌, refl, false, eqb}
use Rattle.std.proofs.Common.{arith}
use Rattle.std.proofs.lemmas.Bool.{eqb-false}
use Rattle.base_facts.specs.Numbers.{last_number}
use Rattle.participant.specs.Call.{aged_to}
use Rattle.participant.specs.Record.{first24}
use Rattle.call_distribute.specs.Distribute.{with_fresh, distribute_facts, distributed_of}
use Rattle.participant.proofs.Settle.{none-holds, on-done}
use Rattle.call_send.specs.Send.{send_facts}
use Rattle.law_calls.specs.ReceivedArgument.{accepted-none}
use Rattle.law_calls.specs.Passed.{receive-passed, send-passed, distribute-passed}
use Rattle.law_calls.specs.Never.{NotOurs, MnFits, KnFits}

pub not_ours : NotOurs
not_ours p time verdict s e = (receive-passed p time verdict s (accepted-none p time verdict s e)).other

-- fact 14: a number that rises is below its limit
pub risen : (n : ℕ) → n < 2 ^ 32 → eqb n last_number ≡ false → n + 1 < 2 ^ 32
risen n h e = let ne = eqb-false n last_number e in omega arith

pub mn-fits : MnFits
unfolding send_facts
mn-fits p time l o room h e = risen p.mn h (send-passed p time l o room (none-holds (send_facts p time l o room) refl e)).mn

pub kn-fits : KnFits
unfolding distributed_of
kn-fits p time w h e =
    let none = (on-done p (with_fresh (aged_to p time) (first24 w)) (distribute_facts p time w) refl e).1 in
    risen p.kn h (distribute-passed p time w none).kn
