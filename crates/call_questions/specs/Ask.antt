-- The questions: "a question goes by the clock".
use Rattle.std.specs.Prelude.{ℕ, ◌-◌, Bool, ◌||◌, leb, eqb}
use Rattle.base_mi.specs.declared.Mi.{Mi}
use Rattle.table_election.specs.declared.Server.{Server}
use Rattle.table_lookup.specs.Look.{held_in, live_for, potential_for}
use Rattle.table_counts.specs.Counts.{live_count, potential_count}
use Rattle.participant.specs.declared.Participant.{Participant}
use Rattle.participant.specs.Call.{aged_to}
use Rattle.call_standing.specs.Standing.{server_of, elected_self, fresh_due}

-- "a question goes by the clock": it is asked of the table as expiry would then make it
abbrev pub at_clock : Participant → Participant
at_clock p = aged_to p p.clock

unfoldable pub asked_server : Participant → Server
asked_server p = server_of (at_clock p)

unfoldable pub asked_elected : Participant → Bool
asked_elected p = elected_self (at_clock p)

unfoldable pub asked_fresh : Participant → Bool
asked_fresh p = fresh_due (at_clock p)

-- whether an MI is Live, or Potential
unfoldable pub asked_live : Participant → Mi → Bool
asked_live p m = live_for (held_in m (at_clock p).table)

unfoldable pub asked_potential : Participant → Mi → Bool
asked_potential p m = potential_for (held_in m (at_clock p).table)

unfoldable pub asked_lives : Participant → ℕ
asked_lives p = live_count (at_clock p).table

unfoldable pub asked_potentials : Participant → ℕ
asked_potentials p = potential_count (at_clock p).table

abbrev pub hello_time : ℕ
hello_time = 2000

-- "Hello is due if MN is 0 or 2,000 ms have passed since the last send."
unfoldable pub hello_due : Participant → Bool
hello_due p = eqb p.mn 0 || leb hello_time (p.clock - p.sent)
