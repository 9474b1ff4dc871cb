-- What an accepted frame makes of the participant, and facts 11 and 12.
use Rattle.std.specs.Prelude.{ℕ, Bool, ◌||◌, List, [], ◌∷◌, Option, Ok}
use Rattle.frame.specs.declared.Basic.{Basic}
use Rattle.frame_places.specs.declared.Places.{Places}
use Rattle.table_lookup.specs.Look.{held_in, stale_for, no_room_for, becomes_live}
use Rattle.table_enter.specs.Enter.{entered_at}
use Rattle.table_lookup.specs.declared.Held.{Held}
use Rattle.table_enter.specs.declared.Heard.{Heard}
use Rattle.participant.specs.Record.{set_mark, set_table}
use Rattle.participant.specs.Call.{aged_to, settle_to}
use Rattle.participant.specs.declared.Participant.{Participant}
use Rattle.participant.specs.declared.call.Called.{Called}
use Rattle.call_hearing.specs.Proof.{proves_in}
use Rattle.call_hearing.specs.Keys.{Keyed, keyed_of}
use Rattle.call_hearing.specs.declared.keys.Wrapped.{Wrapped}

-- "An accepted frame enters its MI .. or updates it: MN, SCI, priority, flags": what the frame says of its sender
unfoldable pub heard_of : Basic → Heard
heard_of b =
    record {
      mi = b.mi;
      mn = b.mn;
      sci = b.sci;
      priority = b.priority;
      capability = b.capability;
      server = b.server;
      desired = b.desired;
    }

-- the sender entered or updated; "Going from not Live to Live sets the "added" mark."
unfoldable pub admitted : Participant → Option Held → Basic → Bool → Participant
admitted q held b proves =
    set_mark (q.mark || becomes_live held proves) (set_table (entered_at held (heard_of b) proves q.clock q.table) q)

-- what looking the sender up gives, at the call's time
abbrev pub held_at : Participant → ℕ → Basic → Option Held
held_at p time b = held_in b.mi (aged_to p time).table

-- 11: "MN 0, or not above the MN held for that MI"; 12: "MI new and 16 peers held"
abbrev pub held_facts : Participant → ℕ → Basic → List (ℕ × Bool)
held_facts p time b = (11, stale_for (held_at p time b) b.mn) ∷ (12, no_room_for (held_at p time b) (aged_to p time).table) ∷ []

abbrev pub accepted_of : Keyed → Called Wrapped
accepted_of k = record { participant = k.participant; answer = Ok k.wrapped }

-- the participant with the frame's sender entered or updated, before its Distributed SAK is looked at
unfoldable pub updated_by : Participant → ℕ → List ℕ → Basic → Places → Participant
updated_by p time s b w = admitted (aged_to p time) (held_at p time b) b (proves_in s w p.mi p.mn)

unfoldable pub accepted_by : Participant → ℕ → List ℕ → Basic → Places → Keyed
accepted_by p time s b w = keyed_of (updated_by p time s b w) s b.mi w.sak

-- facts 11 and 12, and what the frame makes of the participant where none holds; fact 10 is asked before
unfoldable pub settled_by : Participant → ℕ → List ℕ → Basic → Places → Called Wrapped
settled_by p time s b w = settle_to p (held_facts p time b) (accepted_of (accepted_by p time s b w))
