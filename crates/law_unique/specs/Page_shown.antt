-- The public functions of `page_shown`. Written by tools/unique.
use Rattle.std.specs.Prelude.{refl}
use Rattle.page_shown.proofs as page_shown
use Rattle.page_shown.specs.contracts as contracts
use Rattle.law_unique.specs.Law.{AsksNothing, OneAnswer, same}

pub page-shown·show·asks-nothing : AsksNothing contracts.show.signature page_shown.show.Reads.requires
page-shown·show·asks-nothing κs a w = refl

pub page-shown·show : OneAnswer page_shown.show.Kinds.ps page_shown.show.Kinds.r page_shown.show.Reads.Learnt
page-shown·show κs a z z' e e' h h' = same h h'
