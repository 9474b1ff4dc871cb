-- A list of octets: each has 8 bits, as the type of a slice of u8 says (`c.shared-slice-known.given` in a proof).
use Rattle.std.specs.Prelude.{ℕ, List, get_or}
use Rattle.std.specs.Int.{w8}
use Rattle.std.proofs.Common.{Fits}

abbrev pub Octets : List ℕ → Type 0
Octets s = (i : ℕ) → Fits w8 (get_or s i 0)
