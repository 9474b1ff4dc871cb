-- The public functions of `base_packed`. Written by tools/unique.
use Rattle.std.specs.Prelude.{refl}
use Rattle.base_packed.proofs as base_packed
use Rattle.base_packed.specs.contracts as contracts
use Rattle.law_unique.specs.Law.{AsksNothing, OneAnswer, same}

pub base-packed·basic·FlagsFromU8·from·asks-nothing : AsksNothing contracts.basic.FlagsFromU8.from.signature base_packed.basic.FlagsFromU8.from.Reads.requires
base-packed·basic·FlagsFromU8·from·asks-nothing κs a w = refl

pub base-packed·basic·FlagsFromU8·from : OneAnswer base_packed.basic.FlagsFromU8.from.Kinds.ps base_packed.basic.FlagsFromU8.from.Kinds.r base_packed.basic.FlagsFromU8.from.Reads.Learnt
base-packed·basic·FlagsFromU8·from κs a z z' e e' h h' = same h h'

pub base-packed·basic·U8FromFlags·from·asks-nothing : AsksNothing contracts.basic.U8FromFlags.from.signature base_packed.basic.U8FromFlags.from.Reads.requires
base-packed·basic·U8FromFlags·from·asks-nothing κs a w = refl

pub base-packed·basic·U8FromFlags·from : OneAnswer base_packed.basic.U8FromFlags.from.Kinds.ps base_packed.basic.U8FromFlags.from.Kinds.r base_packed.basic.U8FromFlags.from.Reads.Learnt
base-packed·basic·U8FromFlags·from κs a z z' e e' h h' = same h h'

pub base-packed·sak·SakFlagsFromU8·from·asks-nothing : AsksNothing contracts.sak.SakFlagsFromU8.from.signature base_packed.sak.SakFlagsFromU8.from.Reads.requires
base-packed·sak·SakFlagsFromU8·from·asks-nothing κs a w = refl

pub base-packed·sak·SakFlagsFromU8·from : OneAnswer base_packed.sak.SakFlagsFromU8.from.Kinds.ps base_packed.sak.SakFlagsFromU8.from.Kinds.r base_packed.sak.SakFlagsFromU8.from.Reads.Learnt
base-packed·sak·SakFlagsFromU8·from κs a z z' e e' h h' = same h h'

pub base-packed·sak·U8FromSakFlags·from·asks-nothing : AsksNothing contracts.sak.U8FromSakFlags.from.signature base_packed.sak.U8FromSakFlags.from.Reads.requires
base-packed·sak·U8FromSakFlags·from·asks-nothing κs a w = refl

pub base-packed·sak·U8FromSakFlags·from : OneAnswer base_packed.sak.U8FromSakFlags.from.Kinds.ps base_packed.sak.U8FromSakFlags.from.Kinds.r base_packed.sak.U8FromSakFlags.from.Reads.Learnt
base-packed·sak·U8FromSakFlags·from κs a z z' e e' h h' = same h h'

pub base-packed·used·UsedFromU8·from·asks-nothing : AsksNothing contracts.used.UsedFromU8.from.signature base_packed.used.UsedFromU8.from.Reads.requires
base-packed·used·UsedFromU8·from·asks-nothing κs a w = refl

pub base-packed·used·UsedFromU8·from : OneAnswer base_packed.used.UsedFromU8.from.Kinds.ps base_packed.used.UsedFromU8.from.Kinds.r base_packed.used.UsedFromU8.from.Reads.Learnt
base-packed·used·UsedFromU8·from κs a z z' e e' h h' = same h h'

pub base-packed·used·U8FromUsed·from·asks-nothing : AsksNothing contracts.used.U8FromUsed.from.signature base_packed.used.U8FromUsed.from.Reads.requires
base-packed·used·U8FromUsed·from·asks-nothing κs a w = refl

pub base-packed·used·U8FromUsed·from : OneAnswer base_packed.used.U8FromUsed.from.Kinds.ps base_packed.used.U8FromUsed.from.Kinds.r base_packed.used.U8FromUsed.from.Reads.Learnt
base-packed·used·U8FromUsed·from κs a z z' e e' h h' = same h h'
