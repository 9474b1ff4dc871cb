-- "An accepted frame enters its MI (at the end of the table) or updates it: MN, SCI, priority, flags, time accepted."
use Rattle.std.specs.Prelude.{ℕ, Bool, cond, ◌||◌, List, [], ◌∷◌, Option, Some, None, set}
use Rattle.base_mi.specs.Mi.{mi_same}
use Rattle.table.specs.declared.Peer.{Peer}
use Rattle.table.specs.declared.Table.{Table}
use Rattle.table_lookup.specs.declared.Held.{Held}
use Rattle.table_enter.specs.declared.Heard.{Heard}
use Rattle.table.specs.Table.{blank_peer, pushed}
use Rattle.table_lookup.specs.Look.{held_in}

-- "Proof sets the proof time; a frame without one leaves it."
abbrev pub proof_after : ℕ → Bool → ℕ → ℕ
proof_after old proves time = cond proves time old

-- The entry that a frame makes of one; a new one is made of the blank.
unfoldable pub updated : Peer → Heard → Bool → ℕ → Peer
updated old h proves time = record {
  mi = h.mi;
  mn = h.mn;
  sci = h.sci;
  accepted = time;
  proof = proof_after old.proof proves time;
  priority = h.priority;
  capability = h.capability;
  server = h.server;
  desired = h.desired;
  proven = proves || old.proven;
}

-- The entry at a place anew. Past the slots nothing changes.
unfoldable pub replaced : Table → ℕ → Peer → Table
replaced t at p = record { peers = set t.peers at p; count = t.count }

-- What an update starts from.
abbrev pub held_peer : Option Held → Peer
held_peer (Some h) = h.peer
held_peer None = blank_peer

-- The table after a frame whose sender was looked up.
unfoldable pub entered_at : Option Held → Heard → Bool → ℕ → Table → Table
entered_at (Some old) h proves time t = replaced t old.at (updated old.peer h proves time)
entered_at None h proves time t = pushed t (updated blank_peer h proves time)

unfoldable pub entered : Heard → Bool → ℕ → Table → Table
entered h proves time t = entered_at (held_in h.mi t) h proves time t

-- The same of the list of entries, where there is room.
abbrev pub enter_list : Heard → Bool → ℕ → List Peer → List Peer
enter_list h proves time [] = updated blank_peer h proves time ∷ []
enter_list h proves time (p ∷ ps) = cond (mi_same h.mi p.mi) (updated p h proves time ∷ ps) (p ∷ enter_list h proves time ps)
