-- The public functions of `call_distribute`. Written by tools/unique.
use Rattle.std.specs.Prelude.{refl}
use Rattle.call_distribute.proofs as call_distribute
use Rattle.call_distribute.specs.contracts as contracts
use Rattle.law_unique.specs.Law.{AsksNothing, OneAnswer, same}

pub call-distribute·distribute·asks-nothing : AsksNothing contracts.distribute.signature call_distribute.distribute.Reads.requires
call-distribute·distribute·asks-nothing κs a w = refl

pub call-distribute·distribute : OneAnswer call_distribute.distribute.Kinds.ps call_distribute.distribute.Kinds.r call_distribute.distribute.Reads.Learnt
call-distribute·distribute κs a z z' e e' h h' = same h h'
