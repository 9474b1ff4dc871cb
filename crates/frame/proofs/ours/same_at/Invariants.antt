use Rattle.std.proofs.Common.{◌≡◌, ◌+◌, drop}
use Rattle.frame.specs.Ours.{same_at}
use Rattle.frame.proofs.ours.same_at.Given as goal

abbrev pub invariant-loop-i : goal.invariant-loop-i
invariant-loop-i l = same_at l.s (l.at + l.i) (drop l.i l.key) ≡ same_at l.s l.at l.key
