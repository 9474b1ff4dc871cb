-- The public functions of `call_judge`. Written by tools/unique.
use Rattle.std.specs.Prelude.{refl}
use Rattle.call_judge.proofs as call_judge
use Rattle.call_judge.specs.contracts as contracts
use Rattle.law_unique.specs.Law.{AsksNothing, OneAnswer, same}

pub call-judge·judge·asks-nothing : AsksNothing contracts.judge.signature call_judge.judge.Reads.requires
call-judge·judge·asks-nothing κs a w = refl

pub call-judge·judge : OneAnswer call_judge.judge.Kinds.ps call_judge.judge.Kinds.r call_judge.judge.Reads.Learnt
call-judge·judge κs a z z' e e' h h' = same h h'
