-- "An installation report names MI and KN and sets receive, or transmit, on the latest key; repeating one is accepted."
use Rattle.std.specs.Prelude.{ℕ, Bool, cond, true, not, ◌||◌, ◌&&◌, List, [], ◌∷◌}
use Rattle.base_mi.specs.declared.Mi.{Mi}
use Rattle.participant.specs.declared.Slot.{Slot}
use Rattle.participant.specs.declared.Participant.{Participant}
use Rattle.participant.specs.declared.call.Called.{Called}
use Rattle.participant.specs.Record.{set_latest}
use Rattle.participant.specs.Call.{settle}
use Rattle.participant.specs.Keys.{is_key}

-- 18: "installation report for a key other than the latest, or transmit before receive"
unfoldable pub misreported : Slot → Mi → ℕ → Bool → Bool
misreported latest m kn transmit = not (is_key latest m kn) || (transmit && not latest.key.receive)

unfoldable pub installed : Slot → Bool → Slot
installed s transmit = record s { key = record s.key { receive = cond transmit s.key.receive true; transmit = cond transmit true s.key.transmit } }

-- Installation report: 18.
abbrev pub report_facts : Participant → Mi → ℕ → Bool → List (ℕ × Bool)
report_facts p m kn transmit = (18, misreported p.latest m kn transmit) ∷ []

unfoldable pub reported : Participant → Mi → ℕ → Bool → Called (Unit {0})
reported p m kn transmit = settle p (report_facts p m kn transmit) (set_latest (installed p.latest transmit) p)
