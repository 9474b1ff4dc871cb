-- The public functions of `call_send`. Written by tools/unique.
use Rattle.std.specs.Prelude.{refl}
use Rattle.call_send.proofs as call_send
use Rattle.call_send.specs.contracts as contracts
use Rattle.law_unique.specs.Law.{AsksNothing, OneAnswer, OneSeen, same}

pub call-send·send·asks-nothing : AsksNothing contracts.send.signature call_send.send.Reads.requires
call-send·send·asks-nothing κs a w = refl

pub call-send·send : OneAnswer call_send.send.Kinds.ps call_send.send.Kinds.r call_send.send.Reads.Learnt
call-send·send κs a z z' e e' h h' = same h.0 h'.0

pub call-send·send·left : OneSeen call_send.send.Kinds.ps call_send.send.Kinds.r call_send.send.Reads.Learnt (λ κs z e. e.1.1.1.1.0.now)
call-send·send·left κs a z z' e e' h h' = same h.1 h'.1
