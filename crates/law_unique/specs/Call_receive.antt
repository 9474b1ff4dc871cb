-- The public functions of `call_receive`. Written by tools/unique.
use Rattle.std.specs.Prelude.{refl}
use Rattle.call_receive.proofs as call_receive
use Rattle.call_receive.specs.contracts as contracts
use Rattle.law_unique.specs.Law.{AsksNothing, OneAnswer, same}

pub call-receive·receive·asks-nothing : AsksNothing contracts.receive.signature call_receive.receive.Reads.requires
call-receive·receive·asks-nothing κs a w = refl

pub call-receive·receive : OneAnswer call_receive.receive.Kinds.ps call_receive.receive.Kinds.r call_receive.receive.Reads.Learnt
call-receive·receive κs a z z' e e' h h' = same h h'
