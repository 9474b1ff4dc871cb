-- How the election stands, for one that need not know which peer is elected.
use Rattle.std.specs.Prelude.{Bool, true, false, not, ◌&&◌, ◌||◌, List}
use Rattle.std.specs.List.{list_any}
use Rattle.table.specs.declared.Peer.{Peer}
use Rattle.table.specs.declared.Table.{Table}
use Rattle.table_election.specs.declared.Rank.{Rank}
use Rattle.table_election.specs.declared.Server.{Server}
use Rattle.table_election.specs.declared.Server.TheVariants.{Nobody, Ourselves, Elected}
use Rattle.table_election.specs.declared.Election.{Election}
use Rattle.table_counts.specs.Counts.{live_count}
use Rattle.table_election.specs.Elect.{lower, rank_of, may_lead, eligible, elected}

-- We are Key Server.
abbrev pub is_ours : Server → Bool
is_ours Nobody = false
is_ours Ourselves = true
is_ours (Elected m) = false

-- A peer is Key Server.
abbrev pub is_theirs : Server → Bool
is_theirs Nobody = false
is_theirs Ourselves = false
is_theirs (Elected m) = true

-- How many peers are Live, whether we are Key Server, and whether a peer is.
unfoldable pub stand_of : Rank → Table → Election
stand_of own t = record {
  live = live_count t;
  ours = is_ours (elected own t);
  theirs = is_theirs (elected own t);
}

-- ---- the code's way (the laws are `theirs-beaten` and `ours-unbeaten`, proofs/Beaten)

-- The peer may be elected, and either we may not be or its rank is lower than ours.
abbrev pub beats_us : Rank → Peer → Bool
beats_us own p = eligible p && (not (may_lead own.priority) || lower (rank_of p) own)

-- One of these peers beats us.
abbrev pub some_beats : Rank → List Peer → Bool
some_beats own l = list_any (beats_us own) l
