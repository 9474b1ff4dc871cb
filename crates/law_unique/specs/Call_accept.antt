-- The public functions of `call_accept`. Written by tools/unique.
use Rattle.std.specs.Prelude.{refl}
use Rattle.call_accept.proofs as call_accept
use Rattle.call_accept.specs.contracts as contracts
use Rattle.law_unique.specs.Law.{AsksNothing, OneAnswer, same}

pub call-accept·heard-of·asks-nothing : AsksNothing contracts.heard_of.signature call_accept.heard_of.Reads.requires
call-accept·heard-of·asks-nothing κs a w = refl

pub call-accept·heard-of : OneAnswer call_accept.heard_of.Kinds.ps call_accept.heard_of.Kinds.r call_accept.heard_of.Reads.Learnt
call-accept·heard-of κs a z z' e e' h h' = same h h'
