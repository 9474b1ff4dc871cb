-- The public functions of `image_key`. Written by tools/unique.
use Rattle.std.specs.Prelude.{refl}
use Rattle.image_key.proofs as image_key
use Rattle.image_key.specs.contracts as contracts
use Rattle.law_unique.specs.Law.{AsksNothing, OneAnswer, OneSeen, same}

pub image-key·put-slot·asks-nothing : AsksNothing contracts.put_slot.signature image_key.put_slot.Reads.requires
image-key·put-slot·asks-nothing κs a w = refl

pub image-key·put-slot : OneSeen image_key.put_slot.Kinds.ps image_key.put_slot.Kinds.r image_key.put_slot.Reads.Learnt (λ κs z e. e.0.now)
image-key·put-slot κs a z z' e e' h h' = same h h'

pub image-key·slot-at·asks-nothing : AsksNothing contracts.slot_at.signature image_key.slot_at.Reads.requires
image-key·slot-at·asks-nothing κs a w = refl

pub image-key·slot-at : OneAnswer image_key.slot_at.Kinds.ps image_key.slot_at.Kinds.r image_key.slot_at.Reads.Learnt
image-key·slot-at κs a z z' e e' h h' = same h h'

pub image-key·slot-clean·asks-nothing : AsksNothing contracts.slot_clean.signature image_key.slot_clean.Reads.requires
image-key·slot-clean·asks-nothing κs a w = refl

pub image-key·slot-clean : OneAnswer image_key.slot_clean.Kinds.ps image_key.slot_clean.Kinds.r image_key.slot_clean.Reads.Learnt
image-key·slot-clean κs a z z' e e' h h' = same h h'
