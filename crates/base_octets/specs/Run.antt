-- Parts of a slice, and what a lent output holds.
use Rattle.std.specs.Prelude.{ℕ, ◌+◌, List, [], ◌∷◌, ◌++◌, cond, length, take, drop, ltb}

-- "that part of the frame is handed back, an empty part if it doesn't fit"
unfoldable pub part_of : List ℕ → ℕ → ℕ → List ℕ
part_of s at n = cond (ltb (length s) (at + n)) [] (take n (drop at s))

-- A lent output after `f` was to be written there: unchanged if it is too short for the whole, else `f` and then what stood past it.
unfoldable pub written : List ℕ → List ℕ → List ℕ
written l f = cond (ltb (length l) (length f)) l (f ++ drop (length f) l)

module _ {A : Type 0} where
  -- The octets of each, one after the other.
  abbrev pub runs_of : (A → List ℕ) → List A → List ℕ
  runs_of f [] = []
  runs_of f (x ∷ xs) = f x ++ runs_of f xs
