-- The public functions of `frame_rules`. Written by tools/unique.
use Rattle.std.specs.Prelude.{refl}
use Rattle.frame_rules.proofs as frame_rules
use Rattle.frame_rules.specs.contracts as contracts
use Rattle.law_unique.specs.Law.{AsksNothing, OneAnswer, same}

pub frame-rules·shape·asks-nothing : AsksNothing contracts.shape.signature frame_rules.shape.Reads.requires
frame-rules·shape·asks-nothing κs a w = refl

pub frame-rules·shape : OneAnswer frame_rules.shape.Kinds.ps frame_rules.shape.Kinds.r frame_rules.shape.Reads.Learnt
frame-rules·shape κs a z z' e e' h h' = same h h'

pub frame-rules·list-len·asks-nothing : AsksNothing contracts.list_len.signature frame_rules.list_len.Reads.requires
frame-rules·list-len·asks-nothing κs a w = refl

pub frame-rules·list-len : OneAnswer frame_rules.list_len.Kinds.ps frame_rules.list_len.Kinds.r frame_rules.list_len.Reads.Learnt
frame-rules·list-len κs a z z' e e' h h' = same h h'

pub frame-rules·extent·asks-nothing : AsksNothing contracts.extent.signature frame_rules.extent.Reads.requires
frame-rules·extent·asks-nothing κs a w = refl

pub frame-rules·extent : OneAnswer frame_rules.extent.Kinds.ps frame_rules.extent.Kinds.r frame_rules.extent.Reads.Learnt
frame-rules·extent κs a z z' e e' h h' = same h h'
