-- The public functions of `table_lookup`. Written by tools/unique.
use Rattle.std.specs.Prelude.{refl}
use Rattle.table_lookup.proofs as table_lookup
use Rattle.table_lookup.specs.contracts as contracts
use Rattle.law_unique.specs.Law.{AsksNothing, OneAnswer, same}

pub table-lookup·look·asks-nothing : AsksNothing contracts.look.signature table_lookup.look.Reads.requires
table-lookup·look·asks-nothing κs a w = refl

pub table-lookup·look : OneAnswer table_lookup.look.Kinds.ps table_lookup.look.Kinds.r table_lookup.look.Reads.Learnt
table-lookup·look κs a z z' e e' h h' = same h h'

pub table-lookup·first·asks-nothing : AsksNothing contracts.first.signature table_lookup.first.Reads.requires
table-lookup·first·asks-nothing κs a w = refl

pub table-lookup·first : OneAnswer table_lookup.first.Kinds.ps table_lookup.first.Kinds.r table_lookup.first.Reads.Learnt
table-lookup·first κs a z z' e e' h h' = same h h'

pub table-lookup·found·asks-nothing : AsksNothing contracts.found.signature table_lookup.found.Reads.requires
table-lookup·found·asks-nothing κs a w = refl

pub table-lookup·found : OneAnswer table_lookup.found.Kinds.ps table_lookup.found.Kinds.r table_lookup.found.Reads.Learnt
table-lookup·found κs a z z' e e' h h' = same h h'

pub table-lookup·stale·asks-nothing : AsksNothing contracts.stale.signature table_lookup.stale.Reads.requires
table-lookup·stale·asks-nothing κs a w = refl

pub table-lookup·stale : OneAnswer table_lookup.stale.Kinds.ps table_lookup.stale.Kinds.r table_lookup.stale.Reads.Learnt
table-lookup·stale κs a z z' e e' h h' = same h h'

pub table-lookup·no-room·asks-nothing : AsksNothing contracts.no_room.signature table_lookup.no_room.Reads.requires
table-lookup·no-room·asks-nothing κs a w = refl

pub table-lookup·no-room : OneAnswer table_lookup.no_room.Kinds.ps table_lookup.no_room.Kinds.r table_lookup.no_room.Reads.Learnt
table-lookup·no-room κs a z z' e e' h h' = same h h'

pub table-lookup·live·asks-nothing : AsksNothing contracts.live.signature table_lookup.live.Reads.requires
table-lookup·live·asks-nothing κs a w = refl

pub table-lookup·live : OneAnswer table_lookup.live.Kinds.ps table_lookup.live.Kinds.r table_lookup.live.Reads.Learnt
table-lookup·live κs a z z' e e' h h' = same h h'

pub table-lookup·potential·asks-nothing : AsksNothing contracts.potential.signature table_lookup.potential.Reads.requires
table-lookup·potential·asks-nothing κs a w = refl

pub table-lookup·potential : OneAnswer table_lookup.potential.Kinds.ps table_lookup.potential.Kinds.r table_lookup.potential.Reads.Learnt
table-lookup·potential κs a z z' e e' h h' = same h h'

pub table-lookup·becomes-live·asks-nothing : AsksNothing contracts.becomes_live.signature table_lookup.becomes_live.Reads.requires
table-lookup·becomes-live·asks-nothing κs a w = refl

pub table-lookup·becomes-live : OneAnswer table_lookup.becomes_live.Kinds.ps table_lookup.becomes_live.Kinds.r table_lookup.becomes_live.Reads.Learnt
table-lookup·becomes-live κs a z z' e e' h h' = same h h'
