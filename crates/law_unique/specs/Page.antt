-- The public functions of `page`. Written by tools/unique.
use Rattle.std.specs.Prelude.{refl}
use Rattle.page.proofs as page
use Rattle.page.specs.contracts as contracts
use Rattle.law_unique.specs.Law.{AsksNothing, OneAnswer, OneSeen, same}

pub page·status·asks-nothing : AsksNothing contracts.status.signature page.status.Reads.requires
page·status·asks-nothing κs a w = refl

pub page·status : OneAnswer page.status.Kinds.ps page.status.Kinds.r page.status.Reads.Learnt
page·status κs a z z' e e' h h' = same h h'

pub page·line·Line·octets·asks-nothing : AsksNothing contracts.line.Line.octets.signature page.line.Line.octets.Reads.requires
page·line·Line·octets·asks-nothing κs a w = refl

pub page·line·Line·octets : OneSeen page.line.Line.octets.Kinds.ps page.line.Line.octets.Kinds.r page.line.Line.octets.Reads.Learnt (λ κs z e. z.now)
page·line·Line·octets κs a z z' e e' h h' = same h h'

pub page·line·ended·asks-nothing : AsksNothing contracts.line.ended.signature page.line.ended.Reads.requires
page·line·ended·asks-nothing κs a w = refl

pub page·line·ended : OneAnswer page.line.ended.Kinds.ps page.line.ended.Kinds.r page.line.ended.Reads.Learnt
page·line·ended κs a z z' e e' h h' = same h h'

pub page·line·refused·asks-nothing : AsksNothing contracts.line.refused.signature page.line.refused.Reads.requires
page·line·refused·asks-nothing κs a w = refl

pub page·line·refused : OneAnswer page.line.refused.Kinds.ps page.line.refused.Kinds.r page.line.refused.Reads.Learnt
page·line·refused κs a z z' e e' h h' = same h h'
