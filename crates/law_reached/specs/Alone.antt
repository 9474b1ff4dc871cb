-- The calls that need no participant: creating, reading an image, the sets of a frame. Each is refused with the first of its facts that
-- holds, and with no other number. Proved in AloneArgument.
use Rattle.std.specs.Prelude.{ℕ, ◌≡◌, not, List, [], ◌∷◌, ◌↔◌, length}
use Rattle.std.proofs.Math.Option.{some}
use Rattle.base_facts.specs.Refusal.{number_in}
use Rattle.frame.specs.Basic.{basic_facts, basic_of}
use Rattle.participant.specs.First.{First}
use Rattle.call_creation.specs.Create.{bad_start}
use Rattle.image_reading.specs.Read.{well_formed, read_of}
use Rattle.law_history.specs.Calls.{Creation, created}

-- 15
abbrev pub CreateRefused : Type 0
CreateRefused = (k : Creation) (n : ℕ) → (number_in (created k).answer ≡ some n) ↔ First ((15, bad_start (length k.ckn) k.capability) ∷ []) n

-- 16
abbrev pub ReadRefused : Type 0
ReadRefused = (s : List ℕ) (n : ℕ) → (number_in (read_of s).answer ≡ some n) ↔ First ((16, not (well_formed s)) ∷ []) n

-- 2 to 5
abbrev pub SetsRefused : Type 0
SetsRefused = (s : List ℕ) (n : ℕ) → (number_in (basic_of s) ≡ some n) ↔ First (basic_facts s) n
