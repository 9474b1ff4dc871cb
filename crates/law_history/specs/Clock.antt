-- "The clock is the latest time in a call that succeeded." Proved in ClockArgument.
use Rattle.std.specs.Prelude.{ℕ, ◌≤◌, ◌≡◌, List, ◌⊎◌, Ok}
use Rattle.std.proofs.Math.Option.{some}
use Rattle.law_history.specs.Calls.{Creation, created, Call, after, time_of, Made}

-- an accepted call with a time
pub record Timed (k : Creation) (cs : List Call) (time : ℕ) : Type 0 where
  pub call : Call
  pub made : Made k cs call
  pub at : time_of call ≡ some time

-- The latest time of the creation and the accepted calls: one of them has it, and none has a later one.
pub record Latest (k : Creation) (cs : List Call) (clock : ℕ) : Type 0 where
  pub one : (clock ≡ k.time) ⊎ Timed k cs clock
  pub created : k.time ≤ clock
  pub none-later : (time : ℕ) → Timed k cs time → time ≤ clock

abbrev pub ClockLatest : Type 0
ClockLatest = (k : Creation) → (created k).answer ≡ Ok tt → (cs : List Call) → Latest k cs (after k cs).clock
