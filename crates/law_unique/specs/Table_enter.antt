-- The public functions of `table_enter`. Written by tools/unique.
use Rattle.std.specs.Prelude.{refl}
use Rattle.table_enter.proofs as table_enter
use Rattle.table_enter.specs.contracts as contracts
use Rattle.law_unique.specs.Law.{AsksNothing, OneSeen, same}

pub table-enter·enter·asks-nothing : AsksNothing contracts.enter.signature table_enter.enter.Reads.requires
table-enter·enter·asks-nothing κs a w = refl

pub table-enter·enter : OneSeen table_enter.enter.Kinds.ps table_enter.enter.Kinds.r table_enter.enter.Reads.Learnt (λ κs z e. e.0.now)
table-enter·enter κs a z z' e e' h h' = same h h'
