-- "It is a proof if its Live or Potential list has any entry with our MI and an MN that is recent."
use Rattle.std.specs.Prelude.{ℕ, ◌-◌, Bool, false, not, ◌||◌, ◌&&◌, List, [], ◌∷◌, ltb, leb, eqb, Option, Some, None}
use Rattle.base_mi.specs.Mi.{mi_same}
use Rattle.base_mi.specs.declared.Mi.{Mi}
use Rattle.base_mi.specs.declared.entry.Entry.{Entry}
use Rattle.frame_places.specs.declared.Spot.{Spot}
use Rattle.frame_places.specs.declared.Places.{Places}
use Rattle.frame_walk.specs.List.{entries_in}

-- "one of the last four sent"
abbrev pub window : ℕ
window = 4

-- "Recent (here): not 0, not above the last sent, and one of the last four sent."
unfoldable pub is_recent : ℕ → ℕ → Bool
is_recent mn last = not (eqb mn 0) && (leb mn last && ltb (last - mn) window)

-- one of the entries has our MI and a recent number
abbrev pub any_recent : Mi → ℕ → List Entry → Bool
any_recent own last [] = false
any_recent own last (e ∷ es) = (mi_same e.mi own && is_recent e.mn last) || any_recent own last es

-- so of a list, if the frame has it
unfoldable pub named_in : List ℕ → Option Spot → Mi → ℕ → Bool
named_in s None own last = false
named_in s (Some list) own last = any_recent own last (entries_in s list.place list.len)

unfoldable pub proves_in : List ℕ → Places → Mi → ℕ → Bool
proves_in s w own last = named_in s w.live own last || named_in s w.potential own last
