-- The public functions of `frame_walk`. Written by tools/unique.
use Rattle.std.specs.Prelude.{refl}
use Rattle.frame_walk.proofs as frame_walk
use Rattle.frame_walk.specs.contracts as contracts
use Rattle.law_unique.specs.Law.{AsksNothing, OneAnswer, same}

pub frame-walk·walk·asks-nothing : AsksNothing contracts.walk.signature frame_walk.walk.Reads.requires
frame-walk·walk·asks-nothing κs a w = refl

pub frame-walk·walk : OneAnswer frame_walk.walk.Kinds.ps frame_walk.walk.Kinds.r frame_walk.walk.Reads.Learnt
frame-walk·walk κs a z z' e e' h h' = same h h'

pub frame-walk·list·find·asks-nothing : AsksNothing contracts.list.find.signature frame_walk.list.find.Reads.requires
frame-walk·list·find·asks-nothing κs a w = refl

pub frame-walk·list·find : OneAnswer frame_walk.list.find.Kinds.ps frame_walk.list.find.Kinds.r frame_walk.list.find.Reads.Learnt
frame-walk·list·find κs a z z' e e' h h' = same h h'
