-- A received frame: the first fact that holds refuses it and nothing changes; an accepted one sets the clock to its time.
-- Proved in ReceivedArgument.
use Rattle.std.specs.Prelude.{ℕ, ◌≡◌, Bool, List}
use Rattle.base_facts.specs.Facts.{first_of}
use Rattle.participant.specs.declared.Participant.{Participant}
use Rattle.participant.specs.Call.{refused_of}
use Rattle.participant.specs.First.{First, NoneHolds}
use Rattle.call_judge.specs.Judge.{basic_in, walk_in, places_in}
use Rattle.call_receive.specs.Receive.{receive_facts, received_of}
use Rattle.call_accept.specs.Accept.{accepted_of, accepted_by}

-- the number of the first fact that holds, 0 if none does
abbrev pub number : Participant → ℕ → Bool → List ℕ → ℕ
number p time verdict s = first_of (receive_facts p time verdict s)

abbrev pub RefusedExactly : Type 0
RefusedExactly =
    (p : Participant) (time : ℕ) (verdict : Bool) (s : List ℕ)
    → (number p time verdict s ≡ 0 → ⊥) → received_of p time verdict s ≡ refused_of p (number p time verdict s)

abbrev pub AcceptedExactly : Type 0
AcceptedExactly =
    (p : Participant) (time : ℕ) (verdict : Bool) (s : List ℕ)
    → number p time verdict s ≡ 0 → received_of p time verdict s ≡ accepted_of (accepted_by p time s (basic_in s) (places_in (walk_in s)))

-- the refusal's number is that of the first fact that holds, and no earlier one does
abbrev pub RefusedFirst : Type 0
RefusedFirst =
    (p : Participant) (time : ℕ) (verdict : Bool) (s : List ℕ)
    → (number p time verdict s ≡ 0 → ⊥) → First (receive_facts p time verdict s) (number p time verdict s)

-- an accepted frame sets the clock to its time
abbrev pub ReceivedClock : Type 0
ReceivedClock = (p : Participant) (time : ℕ) (verdict : Bool) (s : List ℕ) → number p time verdict s ≡ 0 → (received_of p time verdict s).participant.clock ≡ time

-- none of the twelve facts holds of an accepted frame
abbrev pub AcceptedNone : Type 0
AcceptedNone = (p : Participant) (time : ℕ) (verdict : Bool) (s : List ℕ) → number p time verdict s ≡ 0 → NoneHolds (receive_facts p time verdict s)
