-- The public functions of `frame_places`. Written by tools/unique.
use Rattle.std.specs.Prelude.{refl}
use Rattle.frame_places.proofs as frame_places
use Rattle.frame_places.specs.contracts as contracts
use Rattle.law_unique.specs.Law.{AsksNothing, OneAnswer, same}

pub frame-places·none·asks-nothing : AsksNothing contracts.none.signature frame_places.none.Reads.requires
frame-places·none·asks-nothing κs a w = refl

pub frame-places·none : OneAnswer frame_places.none.Kinds.ps frame_places.none.Kinds.r frame_places.none.Reads.Learnt
frame-places·none κs a z z' e e' h h' = same h h'

pub frame-places·has·asks-nothing : AsksNothing contracts.has.signature frame_places.has.Reads.requires
frame-places·has·asks-nothing κs a w = refl

pub frame-places·has : OneAnswer frame_places.has.Kinds.ps frame_places.has.Kinds.r frame_places.has.Reads.Learnt
frame-places·has κs a z z' e e' h h' = same h h'

pub frame-places·with·asks-nothing : AsksNothing contracts.with.signature frame_places.with.Reads.requires
frame-places·with·asks-nothing κs a w = refl

pub frame-places·with : OneAnswer frame_places.with.Kinds.ps frame_places.with.Kinds.r frame_places.with.Reads.Learnt
frame-places·with κs a z z' e e' h h' = same h h'
