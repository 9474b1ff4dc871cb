-- The election as the code holds it: who leads so far, challenged by one peer after the other. `led-winner` shows that it names the winner.
use Rattle.std.specs.Prelude.{true, false, cond, List, [], ◌∷◌, Option, Some, None, fold, map}
use Rattle.table.specs.declared.Peer.{Peer}
use Rattle.table_election.specs.declared.Rank.{Rank}
use Rattle.table_election.specs.declared.Lead.{Lead}
use Rattle.table_election.specs.declared.Server.{Server}
use Rattle.table_election.specs.declared.Server.TheVariants.{Nobody, Ourselves, Elected}
use Rattle.law_lists.specs.Lists.{those}
use Rattle.table_election.specs.Elect.{lower, rank_of, may_lead, eligible}

abbrev pub by_us : Rank → Lead
by_us r = record { ours = true; rank = r }

abbrev pub by_peer : Rank → Lead
by_peer r = record { ours = false; rank = r }

-- Who leads after one more has come: who was lower stays, also on a tie.
abbrev pub challenged : Option Lead → Rank → Option Lead
challenged None r = Some (by_peer r)
challenged (Some q) r = cond (lower r q.rank) (Some (by_peer r)) (Some q)

abbrev pub leader : Option Lead → List Rank → Option Lead
leader lead [] = lead
leader lead (r ∷ rs) = leader (challenged lead r) rs

abbrev pub lead_step : Option Lead → Peer → Option Lead
lead_step lead p = cond (eligible p) (challenged lead (rank_of p)) lead

-- one peer after the other
abbrev pub led : Option Lead → List Peer → Option Lead
led lead l = fold lead_step lead l

-- the ranks that challenge
abbrev pub ranks : List Peer → List Rank
ranks l = map rank_of (those eligible l)

abbrev pub server_led : Option Lead → Server
server_led None = Nobody
server_led (Some q) = cond q.ours Ourselves (Elected q.rank.mi)

-- the lead before any peer
abbrev pub first_lead : Rank → Option Lead
first_lead own = cond (may_lead own.priority) (Some (by_us own)) None
