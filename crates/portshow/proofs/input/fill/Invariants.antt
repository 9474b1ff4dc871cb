-- What is in the space is what was read.
use Rattle.std.proofs.Common.{◌≡◌, ◌-◌, ◌≤◌, length, take}
use Rattle.std.specs.Io.KnownBytes.{Consumes}
use Rattle.portshow.proofs.input.fill.Given as goal

abbrev pub invariant-loop-done : goal.invariant-loop-done
invariant-loop-done g l = (length l.space ≡ length l.initial.space) × (l.done ≤ length l.space) × Consumes (g.R.Read.remaining l.initial.from) (g.R.Read.remaining l.from) (take l.done l.space)

abbrev pub decreases-loop-done : goal.decreases-loop-done
decreases-loop-done g l = length l.initial.space - l.done
