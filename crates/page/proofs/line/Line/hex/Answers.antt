use Rattle.page.proofs.Laws.{hex-digits}
use Rattle.page.proofs.line.Line.hex.Goals as goal

pub returns : goal.returns
returns c =
    let d = c.hex-k.ensures in
    rw (← hex-digits c.args.x c.args.width _ c.requires.width_nonzero c.requires.x_bound d.len, ← d.digits) c.words.ensures
