-- "Each is given exactly when its fact holds and no earlier one does.": of a call's facts, in their order.
use Rattle.std.specs.Prelude.{ℕ, ◌≡◌, Bool, true, false, not, ◌&&◌, List, [], ◌∷◌, ◌++◌, eqb}

abbrev pub NoneHolds : List (ℕ × Bool) → Type 0
NoneHolds [] = Unit {0}
NoneHolds (f ∷ fs) = (f.1 ≡ false) × NoneHolds fs

-- no fact has the number 0
abbrev pub numbered : List (ℕ × Bool) → Bool
numbered [] = true
numbered (f ∷ fs) = not (eqb f.0 0) && numbered fs

-- the fact with number n holds and no earlier one does
pub record First (fs : List (ℕ × Bool)) (n : ℕ) : Type 0 where
  pub earlier : List (ℕ × Bool)
  pub later : List (ℕ × Bool)
  pub is : fs ≡ earlier ++ ((n, true) ∷ later)
  pub none : NoneHolds earlier
