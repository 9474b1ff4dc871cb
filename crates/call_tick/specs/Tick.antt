-- Time passes: the table expires, and the clock goes on.
use Rattle.std.specs.Prelude.{ℕ, [], ◌∷◌}
use Rattle.participant.specs.declared.Participant.{Participant}
use Rattle.participant.specs.declared.call.Called.{Called}
use Rattle.participant.specs.Call.{settle, fact1, aged_to}

-- Tick: 1.
unfoldable pub ticked : Participant → ℕ → Called (Unit {0})
ticked p time = settle p ((1, fact1 p time) ∷ []) (aged_to p time)
