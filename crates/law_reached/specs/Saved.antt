-- "Each saved port image reads back to the same participant": of every participant that a history reaches, by the octets that the save
-- left. Proved in SavedArgument.
use Rattle.std.specs.Prelude.{ℕ, ◌≡◌, List, take, Ok}
use Rattle.participant.specs.Call.{done_of}
use Rattle.image_reading.specs.Read.{read_of}
use Rattle.law_history.specs.Calls.{Creation, created, Call, saves, to_save, answer_of, after}
use Rattle.law_reached.specs.Carried.{Given, AllCarried}

-- A save that answers n octets: the first n of what it left in the lent output.
abbrev pub SavedReadsBack : Type 0
SavedReadsBack =
    (k : Creation) → (created k).answer ≡ Ok tt → Given k → (cs : List Call) → AllCarried cs → (out left : List ℕ) (n : ℕ)
    → answer_of (after k cs) (saves out) ≡ to_save (Ok n) left → read_of (take n left) ≡ done_of (after k cs)
