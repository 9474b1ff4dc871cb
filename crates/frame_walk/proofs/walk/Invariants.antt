use Prim.Native.Nat.{◌-◌, ◌%◌}
use mathlib.Core.Path.{◌≡◌}
use Rattle.frame_walk.specs.Walk.{walk_from}
use Rattle.frame_walk.proofs.walk.Given as goal

abbrev pub invariant-loop-left : goal.invariant-loop-left
invariant-loop-left l = l.left % 16 ≡ l.initial.left % 16

abbrev pub decreases-loop-left : goal.decreases-loop-left
decreases-loop-left l = l.left

abbrev pub invariant-sets : goal.invariant-sets
invariant-sets l = walk_from l.frame l.stop l.at l.places ≡ walk_from l.frame l.stop l.initial.at l.initial.places

abbrev pub decreases-sets : goal.decreases-sets
decreases-sets l = l.stop - l.at
