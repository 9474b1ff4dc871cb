use Rattle.page.proofs.Laws.{decimal-digits}
use Rattle.page.proofs.line.Line.number.Goals as goal

pub returns : goal.returns
returns c = let d = c.decimal-k.ensures in rw (← decimal-digits _ _ c.ranges.x.fits d.len, ← d.digits) c.words.ensures
