-- "The walk over the sets stops at the first one that is wrong."
use Rattle.std.specs.Prelude.{ℕ, zero, suc, ◌+◌, ◌-◌, List, cond, get_or, leb, Result, Ok, Err}
use Rattle.frame_places.specs.Once.{no_places, places_with}
use Rattle.frame_sets.specs.Set.{len_at, bad_set}
use Rattle.frame_rules.specs.Rules.{extent_of}
use Rattle.frame_places.specs.declared.Places.{Places}

-- the place after the set at `at`
abbrev pub next_at : List ℕ → ℕ → ℕ
next_at s at = at + extent_of (get_or s at 0) (len_at s at)

-- the places with the set at `at`
abbrev pub places_after : List ℕ → ℕ → Places → Places
places_after s at p = places_with p (get_or s at 0) at (len_at s at)

-- at most `fuel` sets from `at` on
unfoldable pub walk_go : ℕ → List ℕ → ℕ → ℕ → Places → Result Places ℕ
walk_go zero s stop at p = Ok p
walk_go (suc fuel) s stop at p =
    cond (leb stop at) (Ok p)
    (cond (bad_set s at stop p) (Err at)
    (walk_go fuel s stop (next_at s at) (places_after s at p)))

-- each set takes four octets at least, so there are no more sets than octets
unfoldable pub walk_from : List ℕ → ℕ → ℕ → Places → Result Places ℕ
walk_from s stop at p = walk_go (stop - at) s stop at p

-- The sets from `at` to the ICV's place, `stop`.
unfoldable pub walk_of : List ℕ → ℕ → ℕ → Result Places ℕ
walk_of s at stop = walk_from s stop at no_places
