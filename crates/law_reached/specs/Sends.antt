-- Each frame that a history sent is read back: our identifier of then, the next number, our peers and keys. Proved in SendsArgument.
use Rattle.std.specs.Prelude.{ℕ, ◌+◌, ◌≡◌, List, length, Ok}
use Rattle.participant.specs.Call.{aged_to}
use Rattle.call_judge.specs.Judge.{basic_in}
use Rattle.call_send.specs.Send.{left_by}
use Rattle.law_sends.specs.Sent.{Tells}
use Rattle.law_history.specs.Calls.{Creation, created, Call, sends, after, identifier, numbers_sent, Made}
use Rattle.law_reached.specs.Carried.{Given, AllCarried}

-- The octets that a send left, made after the earlier calls.
pub record ReadBack (k : Creation) (earlier : List Call) (time latest_pn old_pn : ℕ) (octets : List ℕ) : Type 0 where
  pub identified : (basic_in octets).mi ≡ identifier k earlier
  -- one more than how many were sent under that identifier before
  pub numbered : (basic_in octets).mn ≡ length (numbers_sent k earlier) + 1
  -- our peers in table order after expiry, our keys, and all else that a frame says
  pub tells : Tells (aged_to (after k earlier) time) latest_pn old_pn octets

-- Every accepted send of every history.
abbrev pub ReachedSends : Type 0
ReachedSends =
    (k : Creation) → (created k).answer ≡ Ok tt → Given k → (cs : List Call) → AllCarried cs → (time latest_pn old_pn : ℕ) (out : List ℕ) (made : Made k cs (sends time latest_pn old_pn out))
    → ReadBack k made.earlier time latest_pn old_pn (left_by (after k made.earlier) time latest_pn old_pn out)
