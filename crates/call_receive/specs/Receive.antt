-- Receive: 1 to 12.
use Rattle.std.specs.Prelude.{ℕ, Bool, List, ◌∷◌, ◌++◌}
use Rattle.base_mi.specs.Mi.{mi_same}
use Rattle.frame.specs.declared.Basic.{Basic}
use Rattle.participant.specs.Call.{settle_to}
use Rattle.participant.specs.declared.Participant.{Participant}
use Rattle.participant.specs.declared.call.Called.{Called}
use Rattle.call_judge.specs.Judge.{basic_in, walk_in, places_in, frame_facts}
use Rattle.call_hearing.specs.declared.keys.Wrapped.{Wrapped}
use Rattle.call_accept.specs.Accept.{held_facts, accepted_of, accepted_by}

-- 10: "the sender's MI is ours"; 11; 12
unfoldable pub table_facts : Participant → ℕ → Basic → List (ℕ × Bool)
table_facts p time b = (10, mi_same p.mi b.mi) ∷ held_facts p time b

unfoldable pub receive_facts : Participant → ℕ → Bool → List ℕ → List (ℕ × Bool)
receive_facts p time verdict s = frame_facts p time verdict s ++ table_facts p time (basic_in s)

unfoldable pub received_of : Participant → ℕ → Bool → List ℕ → Called Wrapped
received_of p time verdict s =
    settle_to p (receive_facts p time verdict s) (accepted_of (accepted_by p time s (basic_in s) (places_in (walk_in s))))
