-- The public functions of `table`. Written by tools/unique.
use Rattle.std.specs.Prelude.{refl}
use Rattle.table.proofs as table
use Rattle.table.specs.contracts as contracts
use Rattle.law_unique.specs.Law.{AsksNothing, OneAnswer, OneSeen, same}

pub table·blank·asks-nothing : AsksNothing contracts.blank.signature table.blank.Reads.requires
table·blank·asks-nothing κs a w = refl

pub table·blank : OneAnswer table.blank.Kinds.ps table.blank.Kinds.r table.blank.Reads.Learnt
table·blank κs a z z' e e' h h' = same h h'

pub table·empty·asks-nothing : AsksNothing contracts.empty.signature table.empty.Reads.requires
table·empty·asks-nothing κs a w = refl

pub table·empty : OneAnswer table.empty.Kinds.ps table.empty.Kinds.r table.empty.Reads.Learnt
table·empty κs a z z' e e' h h' = same h h'

pub table·Table·held·asks-nothing : AsksNothing contracts.Table.held.signature table.Table.held.Reads.requires
table·Table·held·asks-nothing κs a w = refl

pub table·Table·held : OneSeen table.Table.held.Kinds.ps table.Table.held.Kinds.r table.Table.held.Reads.Learnt (λ κs z e. z.now)
table·Table·held κs a z z' e e' h h' = same h h'
