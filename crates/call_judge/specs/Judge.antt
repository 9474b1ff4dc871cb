-- Facts 1 to 9 of a received frame.
use Rattle.std.specs.Prelude.{ℕ, min, Bool, true, false, not, List, [], ◌∷◌, ◌++◌, take, Result, Ok, Err}
use Rattle.base_facts.specs.Facts.{first_of}
use Rattle.base_facts.specs.Refusal.{told}
use Rattle.base_facts.specs.declared.Refusal.{Refusal}
use Rattle.frame.specs.Basic.{body_len, basic_len, basic_fields, basic_facts}
use Rattle.frame.specs.Ours.{fact6, fact7}
use Rattle.frame.specs.declared.Basic.{Basic}
use Rattle.frame_places.specs.Once.{no_places}
use Rattle.frame_places.specs.declared.Places.{Places}
use Rattle.frame_walk.specs.Walk.{walk_of}
use Rattle.participant.specs.Call.{fact1}
use Rattle.participant.specs.declared.Participant.{Participant}
use Rattle.call_judge.specs.declared.Judged.{Judged}

-- our own CKN
abbrev pub own_ckn : Participant → List ℕ
own_ckn p = take (min p.size 32) p.ckn

-- the frame's Basic set, and the walk over its further sets
abbrev pub basic_in : List ℕ → Basic
basic_in s = basic_fields s (basic_len s) (body_len s)

abbrev pub walk_in : List ℕ → Result Places ℕ
walk_in s = walk_of s (basic_in s).next (basic_in s).stop

abbrev pub is_bad : Result Places ℕ → Bool
is_bad (Ok w) = false
is_bad (Err at) = true

abbrev pub places_in : Result Places ℕ → Places
places_in (Ok w) = w
places_in (Err at) = no_places

-- Facts 6 to 8, of a Basic set and our own CKN.
abbrev pub foreign_facts : List ℕ → Basic → List ℕ → Bool → List (ℕ × Bool)
foreign_facts s b ckn verdict =
    (6, fact6 s b ckn)
    ∷ (7, fact7 b)
    ∷ (8, not verdict)
    ∷ []

-- Facts 1 to 9 in their order; 2 to 5 are those of the Basic set.
unfoldable pub frame_facts : Participant → ℕ → Bool → List ℕ → List (ℕ × Bool)
frame_facts p time verdict s =
    (1, fact1 p time)
    ∷ (basic_facts s
    ++ (foreign_facts s (basic_in s) (own_ckn p) verdict
    ++ ((9, is_bad (walk_in s))
    ∷ [])))

abbrev pub judged_in : List ℕ → Judged
judged_in s = record { basic = basic_in s; places = places_in (walk_in s) }

unfoldable pub judged_of : Participant → ℕ → Bool → List ℕ → Result Judged Refusal
judged_of p time verdict s = told (first_of (frame_facts p time verdict s)) (judged_in s)
