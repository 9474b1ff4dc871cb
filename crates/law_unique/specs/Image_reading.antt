-- The public functions of `image_reading`. Written by tools/unique.
use Rattle.std.specs.Prelude.{refl}
use Rattle.image_reading.proofs as image_reading
use Rattle.image_reading.specs.contracts as contracts
use Rattle.law_unique.specs.Law.{AsksNothing, OneAnswer, same}

pub image-reading·read·asks-nothing : AsksNothing contracts.read.signature image_reading.read.Reads.requires
image-reading·read·asks-nothing κs a w = refl

pub image-reading·read : OneAnswer image_reading.read.Kinds.ps image_reading.read.Kinds.r image_reading.read.Reads.Learnt
image-reading·read κs a z z' e e' h h' = same h h'
