-- "All fields are big-endian."
use Rattle.std.specs.Prelude.{ℕ, zero, suc, ◌+◌, ◌*◌, ◌/◌, ◌%◌, List, [], ◌∷◌, ◌++◌, get_or}

-- The number that the n octets from `at` make, the first of them the highest. Past the end an octet counts as 0.
unfoldable pub be_at : List ℕ → ℕ → ℕ → ℕ
be_at s at zero = 0
be_at s at (suc n) = be_at s at n * 256 + get_or s (at + n) 0

-- The lowest n octets of v, the highest first.
unfoldable pub be_of : ℕ → ℕ → List ℕ
be_of zero v = []
be_of (suc n) v = be_of n (v / 256) ++ (v % 256 ∷ [])
