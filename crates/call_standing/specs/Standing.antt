-- What is asked of the table as it stands: a call asks so once the table is expired to its time.
use Rattle.std.specs.Prelude.{Bool, not, ◌||◌, ◌&&◌, eqb}
use Rattle.table_election.specs.declared.Rank.{Rank}
use Rattle.table_election.specs.declared.Server.{Server}
use Rattle.table_election.specs.Elect.{elected}
use Rattle.table_election.specs.Stand.{is_ours}
use Rattle.table_expiry.specs.Expiry.{fresh_at}
use Rattle.table_counts.specs.Counts.{potential_count}
use Rattle.participant.specs.declared.Participant.{Participant}

abbrev pub own_rank : Participant → Rank
own_rank p = record { priority = p.priority; sci = p.sci; mi = p.mi }

-- "Who is Key Server"
unfoldable pub server_of : Participant → Server
server_of p = elected (own_rank p) p.table

-- "we are elected"
unfoldable pub elected_self : Participant → Bool
elected_self p = is_ours (server_of p)

-- "either KN is 0, or 6,000 ms have passed since our last distribution, or no peer is Potential"
unfoldable pub pause_over : Participant → Bool
pause_over p = eqb p.kn 0 || (not (fresh_at p.clock p.distributed) || eqb (potential_count p.table) 0)

-- "Fresh SAK due (9.8): we are elected, the mark is set, and either .."
unfoldable pub fresh_due : Participant → Bool
fresh_due p = elected_self p && (p.mark && pause_over p)
