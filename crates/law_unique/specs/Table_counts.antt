-- The public functions of `table_counts`. Written by tools/unique.
use Rattle.std.specs.Prelude.{refl}
use Rattle.table_counts.proofs as table_counts
use Rattle.table_counts.specs.contracts as contracts
use Rattle.law_unique.specs.Law.{AsksNothing, OneAnswer, same}

pub table-counts·is-of·asks-nothing : AsksNothing contracts.is_of.signature table_counts.is_of.Reads.requires
table-counts·is-of·asks-nothing κs a w = refl

pub table-counts·is-of : OneAnswer table_counts.is_of.Kinds.ps table_counts.is_of.Kinds.r table_counts.is_of.Reads.Learnt
table-counts·is-of κs a z z' e e' h h' = same h h'

pub table-counts·live-count·asks-nothing : AsksNothing contracts.live_count.signature table_counts.live_count.Reads.requires
table-counts·live-count·asks-nothing κs a w = refl

pub table-counts·live-count : OneAnswer table_counts.live_count.Kinds.ps table_counts.live_count.Kinds.r table_counts.live_count.Reads.Learnt
table-counts·live-count κs a z z' e e' h h' = same h h'

pub table-counts·potential-count·asks-nothing : AsksNothing contracts.potential_count.signature table_counts.potential_count.Reads.requires
table-counts·potential-count·asks-nothing κs a w = refl

pub table-counts·potential-count : OneAnswer table_counts.potential_count.Kinds.ps table_counts.potential_count.Kinds.r table_counts.potential_count.Reads.Learnt
table-counts·potential-count κs a z z' e e' h h' = same h h'

pub table-counts·entry-of·asks-nothing : AsksNothing contracts.entry_of.signature table_counts.entry_of.Reads.requires
table-counts·entry-of·asks-nothing κs a w = refl

pub table-counts·entry-of : OneAnswer table_counts.entry_of.Kinds.ps table_counts.entry_of.Kinds.r table_counts.entry_of.Reads.Learnt
table-counts·entry-of κs a z z' e e' h h' = same h h'

pub table-counts·live-list·asks-nothing : AsksNothing contracts.live_list.signature table_counts.live_list.Reads.requires
table-counts·live-list·asks-nothing κs a w = refl

pub table-counts·live-list : OneAnswer table_counts.live_list.Kinds.ps table_counts.live_list.Kinds.r table_counts.live_list.Reads.Learnt
table-counts·live-list κs a z z' e e' h h' = same h h'

pub table-counts·potential-list·asks-nothing : AsksNothing contracts.potential_list.signature table_counts.potential_list.Reads.requires
table-counts·potential-list·asks-nothing κs a w = refl

pub table-counts·potential-list : OneAnswer table_counts.potential_list.Kinds.ps table_counts.potential_list.Kinds.r table_counts.potential_list.Reads.Learnt
table-counts·potential-list κs a z z' e e' h h' = same h h'
