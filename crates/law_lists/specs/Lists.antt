-- Lists of entries: those that a test picks, whether a test holds of each, and a list in a room of n places.
use Rattle.std.specs.Prelude.{ℕ, ◌-◌, Bool, List, ◌++◌, length, filter, replicate}
use Rattle.std.specs.List.{list_all}

module _ {A : Type 0} where
  abbrev pub those : (A → Bool) → List A → List A
  those f l = filter f l

  abbrev pub every : (A → Bool) → List A → Bool
  every f l = list_all f l

module _ {ℓ} {A : Type ℓ} where
  abbrev pub pad : ℕ → A → List A → List A
  pad n d l = l ++ replicate (n - length l) d
