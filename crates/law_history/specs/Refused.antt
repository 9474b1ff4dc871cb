-- A refused call can be left out of a history: nothing later differs. Proved in RefusedArgument.
use Rattle.std.specs.Prelude.{◌≡◌, false, List, ◌∷◌, ◌++◌}
use Rattle.law_history.specs.Calls.{Creation, Call, answer_of, after, accepted}

-- what the participant is after any later calls
abbrev pub LeftOut : Type 0
LeftOut = (k : Creation) (earlier : List Call) (c : Call) → accepted k earlier c ≡ false → (later : List Call) → after k (later ++ (c ∷ earlier)) ≡ after k (later ++ earlier)

-- and what each of them answers, with the octets that it leaves
abbrev pub AnswersSame : Type 0
AnswersSame =
    (k : Creation) (earlier : List Call) (c : Call) → accepted k earlier c ≡ false → (later : List Call) (d : Call)
    → answer_of (after k (later ++ (c ∷ earlier))) d ≡ answer_of (after k (later ++ earlier)) d
