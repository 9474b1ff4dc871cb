-- The public functions of `call_new_mi`. Written by tools/unique.
use Rattle.std.specs.Prelude.{refl}
use Rattle.call_new_mi.proofs as call_new_mi
use Rattle.call_new_mi.specs.contracts as contracts
use Rattle.law_unique.specs.Law.{AsksNothing, OneAnswer, same}

pub call-new-mi·new-mi·asks-nothing : AsksNothing contracts.new_mi.signature call_new_mi.new_mi.Reads.requires
call-new-mi·new-mi·asks-nothing κs a w = refl

pub call-new-mi·new-mi : OneAnswer call_new_mi.new_mi.Kinds.ps call_new_mi.new_mi.Kinds.r call_new_mi.new_mi.Reads.Learnt
call-new-mi·new-mi κs a z z' e e' h h' = same h h'
