-- "Who is Key Server"
use Rattle.std.specs.Prelude.{ℕ, Bool, true, false, cond, not, ◌&&◌, List, [], ◌∷◌, map, ltb, eqb}
use Rattle.base_mi.specs.declared.Mi.{Mi}
use Rattle.table.specs.declared.Peer.{Peer}
use Rattle.table.specs.declared.Table.{Table}
use Rattle.table_election.specs.declared.Rank.{Rank}
use Rattle.table_election.specs.declared.Server.{Server}
use Rattle.table_election.specs.declared.Server.TheVariants.{Nobody, Ourselves, Elected}
use Rattle.law_lists.specs.Lists.{those}
use Rattle.table.specs.Table.{entries}
use Rattle.table_lookup.specs.Look.{is_live}
use Rattle.table_counts.specs.Counts.{live_count}

-- x below y, or x the same and then the rest
abbrev pub lex : ℕ → ℕ → Bool → Bool
lex x y rest = cond (ltb x y) true (cond (ltb y x) false rest)

abbrev pub lower_mi : Mi → Mi → Bool
lower_mi a b = lex a.hi b.hi (ltb a.lo b.lo)

-- "Lowest priority wins, then lowest SCI (9.5), then lowest MI"
abbrev pub lower : Rank → Rank → Bool
lower a b = lex a.priority b.priority (lex a.sci b.sci (lower_mi a.mi b.mi))

abbrev pub rank_of : Peer → Rank
rank_of p = record { priority = p.priority; sci = p.sci; mi = p.mi }

-- One that may be elected: who is Key Server then, and what it is compared by.
pub record Candidate : Type 0 where
  pub who : Server
  pub rank : Rank

abbrev pub ourselves : Rank → Candidate
ourselves own = record { who = Ourselves; rank = own }

abbrev pub peer_of : Peer → Candidate
peer_of p = record { who = Elected p.mi; rank = rank_of p }

-- "those whose priority isn't 255"
abbrev pub may_lead : ℕ → Bool
may_lead priority = not (eqb priority 255)

-- "the Live peers, those whose priority isn't 255; a peer counts only if its last frame had the Key Server flag"
abbrev pub eligible : Peer → Bool
eligible p = is_live p && (p.server && may_lead p.priority)

abbrev pub contenders : List Peer → List Candidate
contenders l = map peer_of (those eligible l)

-- "of ourselves and the Live peers, those whose priority isn't 255"
abbrev pub candidates : Rank → List Peer → List Candidate
candidates own l = cond (may_lead own.priority) (ourselves own ∷ contenders l) (contenders l)

-- The one that wins against those that follow; on a tie the earlier.
abbrev pub least : Candidate → List Candidate → Candidate
least c [] = c
least c (d ∷ ds) = least (cond (lower d.rank c.rank) d c) ds

-- "None left: nobody."
abbrev pub winner : List Candidate → Server
winner [] = Nobody
winner (c ∷ cs) = (least c cs).who

-- "With no Live peer: nobody. Otherwise, .."
unfoldable pub elected : Rank → Table → Server
elected own t = cond (eqb (live_count t) 0) Nobody (winner (candidates own (entries t)))
