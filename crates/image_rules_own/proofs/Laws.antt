-- A turn of the loop over octets.
use Prim.Native.Nat.{ℕ, ◌+◌, ◌<◌}
use mathlib.Core.Path.{◌≡◌}
use mathlib.Core.Bool.{◌&&◌}
use mathlib.Core.List.{List}
use native.Mathlib.Numerals.{add-one}
use lib.ListN.{length, get_or, drop}
use lib.Seq.{drop-cons}
use lib.Dec.{eqb}
use Rattle.image_rules.specs.Rules.{zeros}

-- what a loop over octets has left
pub zeros-next : (s : List ℕ) (i : ℕ) → i < length s → zeros (drop i s) ≡ (eqb (get_or s i 0) 0 && zeros (drop (i + 1) s))
zeros-next s i h = rw (add-one, drop-cons s i 0 h)
