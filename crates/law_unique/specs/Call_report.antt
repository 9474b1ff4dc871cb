-- The public functions of `call_report`. Written by tools/unique.
use Rattle.std.specs.Prelude.{refl}
use Rattle.call_report.proofs as call_report
use Rattle.call_report.specs.contracts as contracts
use Rattle.law_unique.specs.Law.{AsksNothing, OneAnswer, same}

pub call-report·report·asks-nothing : AsksNothing contracts.report.signature call_report.report.Reads.requires
call-report·report·asks-nothing κs a w = refl

pub call-report·report : OneAnswer call_report.report.Kinds.ps call_report.report.Kinds.r call_report.report.Reads.Learnt
call-report·report κs a z z' e e' h h' = same h h'
