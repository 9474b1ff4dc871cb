-- The public functions of `base_mi`. Written by tools/unique.
use Rattle.std.specs.Prelude.{refl}
use Rattle.base_mi.proofs as base_mi
use Rattle.base_mi.specs.contracts as contracts
use Rattle.law_unique.specs.Law.{AsksNothing, OneAnswer, OneSeen, same}

pub base-mi·entry·entry-at·asks-nothing : AsksNothing contracts.entry.entry_at.signature base_mi.entry.entry_at.Reads.requires
base-mi·entry·entry-at·asks-nothing κs a w = refl

pub base-mi·entry·entry-at : OneAnswer base_mi.entry.entry_at.Kinds.ps base_mi.entry.entry_at.Kinds.r base_mi.entry.entry_at.Reads.Learnt
base-mi·entry·entry-at κs a z z' e e' h h' = same h h'

pub base-mi·entry·put-entry·asks-nothing : AsksNothing contracts.entry.put_entry.signature base_mi.entry.put_entry.Reads.requires
base-mi·entry·put-entry·asks-nothing κs a w = refl

pub base-mi·entry·put-entry : OneSeen base_mi.entry.put_entry.Kinds.ps base_mi.entry.put_entry.Kinds.r base_mi.entry.put_entry.Reads.Learnt (λ κs z e. e.0.now)
base-mi·entry·put-entry κs a z z' e e' h h' = same h h'

pub base-mi·mi-at·asks-nothing : AsksNothing contracts.mi_at.signature base_mi.mi_at.Reads.requires
base-mi·mi-at·asks-nothing κs a w = refl

pub base-mi·mi-at : OneAnswer base_mi.mi_at.Kinds.ps base_mi.mi_at.Kinds.r base_mi.mi_at.Reads.Learnt
base-mi·mi-at κs a z z' e e' h h' = same h h'

pub base-mi·put-mi·asks-nothing : AsksNothing contracts.put_mi.signature base_mi.put_mi.Reads.requires
base-mi·put-mi·asks-nothing κs a w = refl

pub base-mi·put-mi : OneSeen base_mi.put_mi.Kinds.ps base_mi.put_mi.Kinds.r base_mi.put_mi.Reads.Learnt (λ κs z e. e.0.now)
base-mi·put-mi κs a z z' e e' h h' = same h h'
