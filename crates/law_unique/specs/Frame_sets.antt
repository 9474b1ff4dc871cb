-- The public functions of `frame_sets`. Written by tools/unique.
use Rattle.std.specs.Prelude.{refl}
use Rattle.frame_sets.proofs as frame_sets
use Rattle.frame_sets.specs.contracts as contracts
use Rattle.law_unique.specs.Law.{AsksNothing, OneAnswer, same}

pub frame-sets·kinds·sak-at·asks-nothing : AsksNothing contracts.kinds.sak_at.signature frame_sets.kinds.sak_at.Reads.requires
frame-sets·kinds·sak-at·asks-nothing κs a w = refl

pub frame-sets·kinds·sak-at : OneAnswer frame_sets.kinds.sak_at.Kinds.ps frame_sets.kinds.sak_at.Kinds.r frame_sets.kinds.sak_at.Reads.Learnt
frame-sets·kinds·sak-at κs a z z' e e' h h' = same h h'

pub frame-sets·kinds·type-of·asks-nothing : AsksNothing contracts.kinds.type_of.signature frame_sets.kinds.type_of.Reads.requires
frame-sets·kinds·type-of·asks-nothing κs a w = refl

pub frame-sets·kinds·type-of : OneAnswer frame_sets.kinds.type_of.Kinds.ps frame_sets.kinds.type_of.Kinds.r frame_sets.kinds.type_of.Reads.Learnt
frame-sets·kinds·type-of κs a z z' e e' h h' = same h h'

pub frame-sets·set-head·asks-nothing : AsksNothing contracts.set_head.signature frame_sets.set_head.Reads.requires
frame-sets·set-head·asks-nothing κs a w = refl

pub frame-sets·set-head : OneAnswer frame_sets.set_head.Kinds.ps frame_sets.set_head.Kinds.r frame_sets.set_head.Reads.Learnt
frame-sets·set-head κs a z z' e e' h h' = same h h'

pub frame-sets·set-at·asks-nothing : AsksNothing contracts.set_at.signature frame_sets.set_at.Reads.requires
frame-sets·set-at·asks-nothing κs a w = refl

pub frame-sets·set-at : OneAnswer frame_sets.set_at.Kinds.ps frame_sets.set_at.Kinds.r frame_sets.set_at.Reads.Learnt
frame-sets·set-at κs a z z' e e' h h' = same h h'
