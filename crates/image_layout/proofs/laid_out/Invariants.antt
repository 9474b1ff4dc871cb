use Prim.Native.Nat.{◌^◌, ◌<◌}
use mathlib.Core.Path.{◌≡◌}
use lib.ListN.{drop}
use Rattle.image_layout.specs.Layout.{laid_from, laid_out}
use Rattle.image_layout.proofs.laid_out.Given as goal

abbrev pub invariant-loop-i : goal.invariant-loop-i
invariant-loop-i l = (l.at < 2 ^ 33) × (laid_from l.s l.i l.at (drop l.i l.sizes) ≡ laid_out l.s l.sizes)
