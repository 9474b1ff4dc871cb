-- The public functions of `image_rules_own`. Written by tools/unique.
use Rattle.std.specs.Prelude.{refl}
use Rattle.image_rules_own.proofs as image_rules_own
use Rattle.image_rules_own.specs.contracts as contracts
use Rattle.law_unique.specs.Law.{AsksNothing, OneAnswer, same}

pub image-rules-own·own-good·asks-nothing : AsksNothing contracts.own_good.signature image_rules_own.own_good.Reads.requires
image-rules-own·own-good·asks-nothing κs a w = refl

pub image-rules-own·own-good : OneAnswer image_rules_own.own_good.Kinds.ps image_rules_own.own_good.Kinds.r image_rules_own.own_good.Reads.Learnt
image-rules-own·own-good κs a z z' e e' h h' = same h h'
