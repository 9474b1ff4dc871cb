-- The public functions of `table_election`. Written by tools/unique.
use Rattle.std.specs.Prelude.{refl}
use Rattle.table_election.proofs as table_election
use Rattle.table_election.specs.contracts as contracts
use Rattle.law_unique.specs.Law.{AsksNothing, OneAnswer, same}

pub table-election·stand·asks-nothing : AsksNothing contracts.stand.signature table_election.stand.Reads.requires
table-election·stand·asks-nothing κs a w = refl

pub table-election·stand : OneAnswer table_election.stand.Kinds.ps table_election.stand.Kinds.r table_election.stand.Reads.Learnt
table-election·stand κs a z z' e e' h h' = same h h'

pub table-election·elect·asks-nothing : AsksNothing contracts.elect.signature table_election.elect.Reads.requires
table-election·elect·asks-nothing κs a w = refl

pub table-election·elect : OneAnswer table_election.elect.Kinds.ps table_election.elect.Kinds.r table_election.elect.Reads.Learnt
table-election·elect κs a z z' e e' h h' = same h h'
