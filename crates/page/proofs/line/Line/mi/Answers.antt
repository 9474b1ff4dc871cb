use Rattle.page.specs.Text.{hex_of}
use Rattle.page.proofs.Said.{said-append}
use Rattle.page.proofs.line.Line.mi.Goals as goal

pub returns : goal.returns
unfolding hex_of
returns c = rw said-append cc
