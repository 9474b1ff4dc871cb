-- "Lowest priority wins, ..": who is the least of those that may be elected.
use Rattle.std.specs.Prelude.{◌≡◌, false}
use mathlib.Core.List.{List, Memᴰ}
use Rattle.table.specs.declared.Peer.{Peer}
use Rattle.table_election.specs.declared.Rank.{Rank}
use Rattle.table_election.specs.Elect.{lower, Candidate, candidates}

-- c may be elected, and nobody that may be has a lower rank
pub record Least (own : Rank) (l : List Peer) (c : Candidate) : Type 0 where
  pub among : Memᴰ c (candidates own l)
  pub lowest : (d : Candidate) → Memᴰ d (candidates own l) → lower d.rank c.rank ≡ false
