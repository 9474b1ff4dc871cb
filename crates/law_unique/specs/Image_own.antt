-- The public functions of `image_own`. Written by tools/unique.
use Rattle.std.specs.Prelude.{refl}
use Rattle.image_own.proofs as image_own
use Rattle.image_own.specs.contracts as contracts
use Rattle.law_unique.specs.Law.{AsksNothing, OneAnswer, OneSeen, same}

pub image-own·put-own·asks-nothing : AsksNothing contracts.put_own.signature image_own.put_own.Reads.requires
image-own·put-own·asks-nothing κs a w = refl

pub image-own·put-own : OneSeen image_own.put_own.Kinds.ps image_own.put_own.Kinds.r image_own.put_own.Reads.Learnt (λ κs z e. e.0.now)
image-own·put-own κs a z z' e e' h h' = same h h'

pub image-own·own-at·asks-nothing : AsksNothing contracts.own_at.signature image_own.own_at.Reads.requires
image-own·own-at·asks-nothing κs a w = refl

pub image-own·own-at : OneAnswer image_own.own_at.Kinds.ps image_own.own_at.Kinds.r image_own.own_at.Reads.Learnt
image-own·own-at κs a z z' e e' h h' = same h h'

pub image-own·own-clean·asks-nothing : AsksNothing contracts.own_clean.signature image_own.own_clean.Reads.requires
image-own·own-clean·asks-nothing κs a w = refl

pub image-own·own-clean : OneAnswer image_own.own_clean.Kinds.ps image_own.own_clean.Kinds.r image_own.own_clean.Reads.Learnt
image-own·own-clean κs a z z' e e' h h' = same h h'
