-- The questions after any history: at the clock nothing is left to expire, so each asks the table as it stands.
use Rattle.std.specs.Prelude.{◌≡◌, List}
use Rattle.std.proofs.Common.{ap}
use Rattle.base_mi.specs.declared.Mi.{Mi}
use Rattle.table.specs.declared.Table.{Table}
use Rattle.table_lookup.specs.Look.{held_in, live_for, potential_for}
use Rattle.table_counts.specs.Counts.{live_count, potential_count}
use Rattle.law_kept.specs.Keeping.{kept-still}
use Rattle.participant.specs.declared.Participant.{Participant}
use Rattle.participant.specs.Record.{set_table}
use Rattle.participant.specs.Call.{aged_to}
use Rattle.call_questions.specs.Ask.{at_clock, asked_server, asked_elected, asked_fresh, asked_live, asked_potential, asked_lives, asked_potentials}
use Rattle.call_standing.specs.Standing.{server_of, elected_self, fresh_due}
use Rattle.law_history.specs.Calls.{Creation, Call, after}
use Rattle.law_history.proofs.TableArgument.{keeps}

-- What the questions answer where expiry would leave the participant as it is.
pub record AsItStands (p : Participant) : Type 0 where
  pub still : at_clock p ≡ p
  pub server : asked_server p ≡ server_of p
  pub elected : asked_elected p ≡ elected_self p
  pub fresh : asked_fresh p ≡ fresh_due p
  pub live : (m : Mi) → asked_live p m ≡ live_for (held_in m p.table)
  pub potential : (m : Mi) → asked_potential p m ≡ potential_for (held_in m p.table)
  pub lives : asked_lives p ≡ live_count p.table
  pub potentials : asked_potentials p ≡ potential_count p.table

still-asked : (p : Participant) → at_clock p ≡ p → AsItStands p
unfolding asked_server asked_elected asked_fresh asked_live asked_potential asked_lives asked_potentials
still-asked p e =
    record {
      still = e;
      server = ap server_of e;
      elected = ap elected_self e;
      fresh = ap fresh_due e;
      live = λ m. ap (λ (q : Participant). live_for (held_in m q.table)) e;
      potential = λ m. ap (λ (q : Participant). potential_for (held_in m q.table)) e;
      lives = ap (λ (q : Participant). live_count q.table) e;
      potentials = ap (λ (q : Participant). potential_count q.table) e;
    }

-- the theorem
pub asked-as-it-stands : (k : Creation) (cs : List Call) → AsItStands (after k cs)
unfolding aged_to
asked-as-it-stands k cs =
    let p = after k cs in
    still-asked p (ap (λ (t : Table). set_table t p) (kept-still p.mi p.clock p.table (keeps k cs)))
