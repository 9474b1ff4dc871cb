-- The public functions of `table_expiry`. Written by tools/unique.
use Rattle.std.specs.Prelude.{refl}
use Rattle.table_expiry.proofs as table_expiry
use Rattle.table_expiry.specs.contracts as contracts
use Rattle.law_unique.specs.Law.{AsksNothing, OneAnswer, OneSeen, same}

pub table-expiry·fresh·asks-nothing : AsksNothing contracts.fresh.signature table_expiry.fresh.Reads.requires
table-expiry·fresh·asks-nothing κs a w = refl

pub table-expiry·fresh : OneAnswer table_expiry.fresh.Kinds.ps table_expiry.fresh.Kinds.r table_expiry.fresh.Reads.Learnt
table-expiry·fresh κs a z z' e e' h h' = same h h'

pub table-expiry·oldest·asks-nothing : AsksNothing contracts.oldest.signature table_expiry.oldest.Reads.requires
table-expiry·oldest·asks-nothing κs a w = refl

pub table-expiry·oldest : OneAnswer table_expiry.oldest.Kinds.ps table_expiry.oldest.Kinds.r table_expiry.oldest.Reads.Learnt
table-expiry·oldest κs a z z' e e' h h' = same h h'

pub table-expiry·still-from·asks-nothing : AsksNothing contracts.still_from.signature table_expiry.still_from.Reads.requires
table-expiry·still-from·asks-nothing κs a w = refl

pub table-expiry·still-from : OneAnswer table_expiry.still_from.Kinds.ps table_expiry.still_from.Kinds.r table_expiry.still_from.Reads.Learnt
table-expiry·still-from κs a z z' e e' h h' = same h h'

pub table-expiry·expire·asks-nothing : AsksNothing contracts.expire.signature table_expiry.expire.Reads.requires
table-expiry·expire·asks-nothing κs a w = refl

pub table-expiry·expire : OneSeen table_expiry.expire.Kinds.ps table_expiry.expire.Kinds.r table_expiry.expire.Reads.Learnt (λ κs z e. e.0.now)
table-expiry·expire κs a z z' e e' h h' = same h h'
