-- The public functions of `image_layout`. Written by tools/unique.
use Rattle.std.specs.Prelude.{refl}
use Rattle.image_layout.proofs as image_layout
use Rattle.image_layout.specs.contracts as contracts
use Rattle.law_unique.specs.Law.{AsksNothing, OneAnswer, OneSeen, same}

pub image-layout·put-head·asks-nothing : AsksNothing contracts.put_head.signature image_layout.put_head.Reads.requires
image-layout·put-head·asks-nothing κs a w = refl

pub image-layout·put-head : OneSeen image_layout.put_head.Kinds.ps image_layout.put_head.Kinds.r image_layout.put_head.Reads.Learnt (λ κs z e. e.0.now)
image-layout·put-head κs a z z' e e' h h' = same h h'

pub image-layout·put-entry·asks-nothing : AsksNothing contracts.put_entry.signature image_layout.put_entry.Reads.requires
image-layout·put-entry·asks-nothing κs a w = refl

pub image-layout·put-entry : OneSeen image_layout.put_entry.Kinds.ps image_layout.put_entry.Kinds.r image_layout.put_entry.Reads.Learnt (λ κs z e. e.0.now)
image-layout·put-entry κs a z z' e e' h h' = same h h'

pub image-layout·records-at·asks-nothing : AsksNothing contracts.records_at.signature image_layout.records_at.Reads.requires
image-layout·records-at·asks-nothing κs a w = refl

pub image-layout·records-at : OneAnswer image_layout.records_at.Kinds.ps image_layout.records_at.Kinds.r image_layout.records_at.Reads.Learnt
image-layout·records-at κs a z z' e e' h h' = same h h'

pub image-layout·offset-at·asks-nothing : AsksNothing contracts.offset_at.signature image_layout.offset_at.Reads.requires
image-layout·offset-at·asks-nothing κs a w = refl

pub image-layout·offset-at : OneAnswer image_layout.offset_at.Kinds.ps image_layout.offset_at.Kinds.r image_layout.offset_at.Reads.Learnt
image-layout·offset-at κs a z z' e e' h h' = same h h'

pub image-layout·laid-out·asks-nothing : AsksNothing contracts.laid_out.signature image_layout.laid_out.Reads.requires
image-layout·laid-out·asks-nothing κs a w = refl

pub image-layout·laid-out : OneAnswer image_layout.laid_out.Kinds.ps image_layout.laid_out.Kinds.r image_layout.laid_out.Reads.Learnt
image-layout·laid-out κs a z z' e e' h h' = same h h'
