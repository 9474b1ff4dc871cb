-- The public functions of `image`. Written by tools/unique.
use Rattle.std.specs.Prelude.{refl}
use Rattle.image.proofs as image
use Rattle.image.specs.contracts as contracts
use Rattle.law_unique.specs.Law.{AsksNothing, OneAnswer, OneSeen, same}

pub image·write·asks-nothing : AsksNothing contracts.write.signature image.write.Reads.requires
image·write·asks-nothing κs a w = refl

pub image·write : OneAnswer image.write.Kinds.ps image.write.Kinds.r image.write.Reads.Learnt
image·write κs a z z' e e' h h' = same h.0 h'.0

pub image·write·left : OneSeen image.write.Kinds.ps image.write.Kinds.r image.write.Reads.Learnt (λ κs z e. e.0.now)
image·write·left κs a z z' e e' h h' = same h.1 h'.1
