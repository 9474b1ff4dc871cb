-- "Each saved port image reads back to the same participant, and each image accepted is written again octet for octet."
-- Proved in SavedArgument.
use Rattle.std.specs.Prelude.{ℕ, ◌≤◌, ◌≡◌, ◌↔◌, List, length}
use Rattle.base_octets.specs.Octets.{Octets}
use Rattle.participant.specs.Call.{done_of, refused_of}
use Rattle.call_creation.specs.Create.{empty_participant}
use Rattle.participant.specs.declared.Participant.{Participant}
use Rattle.law_saved.specs.WellFormed.{WellFormed}
use Rattle.image.specs.Image.{image_of}
use Rattle.image_reading.specs.Read.{read_of}

-- (a) a well-formed participant's image reads back to that participant
abbrev pub ReadsBack : Type 0
ReadsBack = (p : Participant) → WellFormed p → read_of (image_of p) ≡ done_of p

-- (b) each image accepted is written again octet for octet
abbrev pub WrittenAgain : Type 0
WrittenAgain = (s : List ℕ) (p : Participant) → Octets s → read_of s ≡ done_of p → image_of p ≡ s

-- (c) each participant that reading answers is well formed
abbrev pub AnswersWellFormed : Type 0
AnswersWellFormed = (s : List ℕ) (p : Participant) → Octets s → read_of s ≡ done_of p → WellFormed p

-- The octets are the image of a well-formed participant.
pub record IsImage (s : List ℕ) : Type 0 where
  pub participant : Participant
  pub formed : WellFormed participant
  pub octets : image_of participant ≡ s

-- (d) reading refuses, with 16, if and only if the octets are not the image of a well-formed participant
abbrev pub RefusedExactly : Type 0
RefusedExactly = (s : List ℕ) → Octets s → (read_of s ≡ refused_of empty_participant 16) ↔ (IsImage s → ⊥)

-- (e) an accepted image has at most 904 octets: 16 peers and 2 keys
abbrev pub NotLong : Type 0
NotLong = (s : List ℕ) (p : Participant) → Octets s → read_of s ≡ done_of p → length s ≤ 904
