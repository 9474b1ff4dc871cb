-- A key's record: where its octets stand it is read back, and what is read of a clean one is written again. Proved in KeyArgument.
use Rattle.std.specs.Prelude.{ℕ, ◌+◌, ◌≤◌, ◌≡◌, List, true, length}
use Rattle.base_octets.specs.Octets.{Octets}
use Rattle.base_octets.proofs.Fields.{Stands}
use Rattle.participant.specs.declared.Key.{Key}
use Rattle.image_key.specs.Key.{key_octets, key_at, key_clean}
use Rattle.law_reread.specs.Fit.{FitKey}
use Rattle.law_reread.specs.Cut.{cut}

-- the parts of a record that stands at `at`
pub record Told (f : List ℕ) (k : Key) (at : ℕ) : Type 0 where
  pub same : key_at f at ≡ k
  pub clean : key_clean f at ≡ true

abbrev pub KeyStands : Type 0
KeyStands = (f : List ℕ) (k : Key) (at : ℕ) → FitKey k → Stands f (key_octets k) at → Told f k at

abbrev pub KeyBack : Type 0
KeyBack = (s : List ℕ) (at : ℕ) → Octets s → at + 28 ≤ length s → key_clean s at ≡ true → key_octets (key_at s at) ≡ cut s at 28
