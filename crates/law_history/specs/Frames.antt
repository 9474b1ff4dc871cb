-- Each frame that a history sent, read as a peer reads it, has our identifier of then and the next number. Proved in FramesArgument.
use Rattle.std.specs.Prelude.{ℕ, ◌+◌, ◌≡◌, List, length, Ok}
use Rattle.base_mi.specs.Fitting.{Fitting}
use Rattle.call_judge.specs.Judge.{basic_in}
use Rattle.call_send.specs.Send.{left_by}
use Rattle.law_history.specs.Calls.{Creation, created, Call, sends, after, identifier, numbers_sent, Made}

-- The number is one more than how many were sent under the identifier before.
abbrev pub NextNumber : Type 0
NextNumber =
    (k : Creation) (cs : List Call) (time latest_pn old_pn : ℕ) (out : List ℕ) (made : Made k cs (sends time latest_pn old_pn out))
    → (basic_in (left_by (after k made.earlier) time latest_pn old_pn out)).mn ≡ length (numbers_sent k made.earlier) + 1

-- An identifier that the host gives has 12 octets.
abbrev pub IdentifierOurs : Type 0
IdentifierOurs =
    (k : Creation) → (created k).answer ≡ Ok tt → (cs : List Call) (time latest_pn old_pn : ℕ) (out : List ℕ) (made : Made k cs (sends time latest_pn old_pn out))
    → Fitting (identifier k made.earlier)
    → (basic_in (left_by (after k made.earlier) time latest_pn old_pn out)).mi ≡ identifier k made.earlier
