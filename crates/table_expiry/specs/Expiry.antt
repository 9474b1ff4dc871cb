-- "Each timed call first expires": what a time leaves of the table.
use Rattle.std.specs.Prelude.{ℕ, ◌-◌, Bool, false, cond, not, ◌&&◌, ◌||◌, List, map, ◌++◌, length, drop, ltb, leb}
use Rattle.table.specs.declared.Peer.{Peer}
use Rattle.table.specs.declared.Table.{Table}
use Rattle.law_lists.specs.Lists.{those, every, pad}
use Rattle.table.specs.Table.{blank_peer, entries}

-- "Life time 6,000"
abbrev pub life_time : ℕ
life_time = 6000

-- At a time, what happened at `at` is less than a life time old.
abbrev pub fresh_at : ℕ → ℕ → Bool
fresh_at time at = ltb (time - at) life_time

abbrev pub fresh_peer : ℕ → Peer → Bool
fresh_peer time p = fresh_at time p.accepted

-- "one whose last proof is that old"
abbrev pub lapsed : ℕ → Peer → Bool
lapsed time p = p.proven && not (fresh_at time p.proof)

abbrev pub unproven : Peer → Peer
unproven p = record {
  mi = p.mi;
  mn = p.mn;
  sci = p.sci;
  accepted = p.accepted;
  proof = 0;
  priority = p.priority;
  capability = p.capability;
  server = p.server;
  desired = p.desired;
  proven = false;
}

-- ".. loses its proof"
abbrev pub aged_peer : ℕ → Peer → Peer
aged_peer time p = cond (lapsed time p) (unproven p) p

-- "an entry whose last accepted frame is 6,000 ms or more old is removed; one whose last proof is that old loses its proof"
abbrev pub aged_list : ℕ → List Peer → List Peer
aged_list time l = map (aged_peer time) (those (fresh_peer time) l)

-- The table with the entries l in the place of its own: blank slots where entries went, those past the entries as they were.
abbrev pub refilled : Table → List Peer → Table
refilled t l = record { peers = pad (length (entries t)) blank_peer l ++ drop (length (entries t)) t.peers; count = length l }

-- What a time leaves of a table: those of its entries that stay.
unfoldable pub expired : ℕ → Table → Table
expired time t = refilled t (aged_list time (entries t))

-- ---- the code's shortcut (laws in proofs/Aging and proofs/Steady)

-- Nothing of an entry is old.
abbrev pub still_peer : ℕ → Peer → Bool
still_peer time p = fresh_peer time p && not (lapsed time p)

abbrev pub steady_in : ℕ → List Peer → Bool
steady_in time l = every (still_peer time) l

-- The same by one comparison each: the earliest time that is less than a life time old, and nothing of an entry is from before it.
abbrev pub oldest_at : ℕ → ℕ
oldest_at time = time - (life_time - 1)

abbrev pub still_from : ℕ → Peer → Bool
still_from from p = leb from p.accepted && (not p.proven || leb from p.proof)
