-- The public functions of `call_tick`. Written by tools/unique.
use Rattle.std.specs.Prelude.{refl}
use Rattle.call_tick.proofs as call_tick
use Rattle.call_tick.specs.contracts as contracts
use Rattle.law_unique.specs.Law.{AsksNothing, OneAnswer, same}

pub call-tick·tick·asks-nothing : AsksNothing contracts.tick.signature call_tick.tick.Reads.requires
call-tick·tick·asks-nothing κs a w = refl

pub call-tick·tick : OneAnswer call_tick.tick.Kinds.ps call_tick.tick.Kinds.r call_tick.tick.Reads.Learnt
call-tick·tick κs a z z' e e' h h' = same h h'
