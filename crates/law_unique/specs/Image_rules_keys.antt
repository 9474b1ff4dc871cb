-- The public functions of `image_rules_keys`. Written by tools/unique.
use Rattle.std.specs.Prelude.{refl}
use Rattle.image_rules_keys.proofs as image_rules_keys
use Rattle.image_rules_keys.specs.contracts as contracts
use Rattle.law_unique.specs.Law.{AsksNothing, OneAnswer, same}

pub image-rules-keys·keys-good·asks-nothing : AsksNothing contracts.keys_good.signature image_rules_keys.keys_good.Reads.requires
image-rules-keys·keys-good·asks-nothing κs a w = refl

pub image-rules-keys·keys-good : OneAnswer image_rules_keys.keys_good.Kinds.ps image_rules_keys.keys_good.Kinds.r image_rules_keys.keys_good.Reads.Learnt
image-rules-keys·keys-good κs a z z' e e' h h' = same h h'
