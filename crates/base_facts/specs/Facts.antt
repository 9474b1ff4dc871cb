-- A call's facts and their numbers, and the padding of a length.
use Rattle.std.specs.Prelude.{ℕ, ◌+◌, ◌*◌, ◌/◌, Bool, true, false, cond, List, [], ◌∷◌, Option, Some, None}

-- A check gives nothing exactly when its fact holds.
abbrev pub check_of : Bool → Option (Unit {0})
check_of true = None
check_of false = Some tt

-- "Each is given exactly when its fact holds and no earlier one does": the number of the first fact of a call's list that holds, 0 if none does.
abbrev pub first_of : List (ℕ × Bool) → ℕ
first_of [] = 0
first_of (f ∷ fs) = cond f.1 f.0 (first_of fs)

-- "every set is padded to a multiple of 4"
abbrev pub padded_of : ℕ → ℕ
padded_of n = (n + 3) / 4 * 4
