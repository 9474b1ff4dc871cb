-- "member identifier (MI) 12"
use Rattle.std.specs.Prelude.{ℕ, ◌+◌, List, ◌++◌, Bool, ◌&&◌, eqb}
use Rattle.base_octets.specs.Number.{be_at, be_of}
use Rattle.base_mi.specs.declared.Mi.{Mi}

-- The identifier that the 12 octets from `at` make.
unfoldable pub mi_at : List ℕ → ℕ → Mi
mi_at s at = record { hi = be_at s at 8; lo = be_at s (at + 8) 4 }

-- Its 12 octets.
unfoldable pub mi_octets : Mi → List ℕ
mi_octets m = be_of 8 m.hi ++ be_of 4 m.lo

abbrev pub mi_same : Mi → Mi → Bool
mi_same a b = eqb a.hi b.hi && eqb a.lo b.lo
