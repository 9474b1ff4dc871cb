-- Send: 1, 14, 13.
use Rattle.std.specs.Prelude.{ℕ, ◌+◌, Bool, cond, List, [], ◌∷◌, length, ltb, eqb}
use Rattle.base_facts.specs.Facts.{first_of}
use Rattle.base_facts.specs.Numbers.{last_number}
use Rattle.base_octets.specs.Run.{written}
use Rattle.frame_writer.specs.Frame.{frame_of}
use Rattle.participant.specs.Record.{set_mn, set_sent}
use Rattle.participant.specs.Call.{fact1, aged_to, accepted_of, settle_to}
use Rattle.participant.specs.declared.Participant.{Participant}
use Rattle.participant.specs.declared.call.Called.{Called}
use Rattle.call_send.specs.Message.{message_of}

-- the frame at the call's time
unfoldable pub frame_at : Participant → ℕ → ℕ → ℕ → List ℕ
frame_at p time latest_pn old_pn = frame_of (message_of (aged_to p time) latest_pn old_pn)

-- 14: "sending with MN .. already 4,294,967,295"; 13: "lent output too short for the whole output"
unfoldable pub send_facts : Participant → ℕ → ℕ → ℕ → ℕ → List (ℕ × Bool)
send_facts p time latest_pn old_pn room =
    (1, fact1 p time) ∷ (14, eqb p.mn last_number) ∷ (13, ltb room (length (frame_at p time latest_pn old_pn))) ∷ []

-- "MN rises by 1", and the time of the last send
unfoldable pub sent_at : Participant → ℕ → Participant
sent_at p time = set_sent time (set_mn (p.mn + 1) (aged_to p time))

-- and the frame's length
unfoldable pub sent_of : Participant → ℕ → ℕ → ℕ → ℕ → Called ℕ
sent_of p time latest_pn old_pn room =
    settle_to p (send_facts p time latest_pn old_pn room) (accepted_of (sent_at p time) (length (frame_at p time latest_pn old_pn)))

-- What the lent octets hold: the frame and then what stood past it, or all that stood there.
unfoldable pub left_by : Participant → ℕ → ℕ → ℕ → List ℕ → List ℕ
left_by p time latest_pn old_pn out =
    cond (eqb (first_of (send_facts p time latest_pn old_pn (length out))) 0) (written out (frame_at p time latest_pn old_pn)) out
