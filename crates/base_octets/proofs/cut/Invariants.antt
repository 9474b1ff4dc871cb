use Rattle.std.proofs.Common.{◌≡◌, ◌+◌, ◌<◌, ℕ, get_or, length}
use Rattle.base_octets.proofs.cut.Given as goal

-- after i turns i octets are there
abbrev pub invariant-loop-i : goal.invariant-loop-i
invariant-loop-i g l = (length l.a ≡ g.row.N) × ((j : ℕ) → j < l.i → get_or l.a j 0 ≡ get_or l.s (l.at + j) 0)
