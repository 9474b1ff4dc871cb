-- Each participant that a history reaches is well formed. Proved in ReachedArgument.
use Rattle.std.specs.Prelude.{◌≡◌, List, Ok}
use Rattle.law_saved.specs.WellFormed.{WellFormed}
use Rattle.law_history.specs.Calls.{Creation, created, Call, after}
use Rattle.law_reached.specs.Carried.{Given, AllCarried}

-- Whatever calls were made after an accepted creation, accepted or refused, in any order.
abbrev pub Reached : Type 0
Reached = (k : Creation) → (created k).answer ≡ Ok tt → Given k → (cs : List Call) → AllCarried cs → WellFormed (after k cs)
