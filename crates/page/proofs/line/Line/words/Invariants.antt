use mathlib.Core.Path.{◌≡◌}
use lib.ListN.{drop}
use Rattle.page.specs.Text.{said}
use Rattle.page.proofs.line.Line.words.Given as goal

abbrev pub invariant-loop-x : goal.invariant-loop-x
invariant-loop-x l = said l.self (drop l.x-index l.s) ≡ said l.initial.self l.s
