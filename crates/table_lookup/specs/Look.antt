-- Looking an MI up, and what facts 11 and 12 ask of the answer.
use Rattle.std.specs.Prelude.{ℕ, ◌+◌, Bool, false, cond, not, ◌&&◌, ◌||◌, List, [], ◌∷◌, Option, Some, None, leb, eqb}
use Rattle.base_mi.specs.declared.Mi.{Mi}
use Rattle.base_mi.specs.Mi.{mi_same}
use Rattle.table.specs.declared.Peer.{Peer}
use Rattle.table.specs.declared.Table.{Table}
use Rattle.table_lookup.specs.declared.Held.{Held}
use Rattle.table.specs.Table.{room, entries}

-- The first entry of an MI, with its place, where the list begins at place i.
abbrev pub seek : Mi → ℕ → List Peer → Option Held
seek m i [] = None
seek m i (p ∷ ps) = cond (mi_same m p.mi) (Some (record { at = i; peer = p })) (seek m (i + 1) ps)

unfoldable pub held_in : Mi → Table → Option Held
held_in m t = seek m 0 (entries t)

-- The same entry by entry: its place, if one was found so far.
abbrev pub first_at : Option ℕ → ℕ → Mi → Peer → Option ℕ
first_at None i m p = cond (mi_same m p.mi) (Some i) None
first_at (Some at) i m p = Some at

-- What the place tells, where p is the entry there.
abbrev pub found_at : Option ℕ → Peer → Option Held
found_at None p = None
found_at (Some at) p = Some (record { at = at; peer = p })

abbrev pub not_above : Option Held → ℕ → Bool
not_above (Some h) mn = leb mn h.peer.mn
not_above None mn = false

-- Fact 11: "MN 0, or not above the MN held for that MI"
abbrev pub stale_for : Option Held → ℕ → Bool
stale_for held mn = eqb mn 0 || not_above held mn

-- Fact 12: "MI new and 16 peers held"
abbrev pub no_room_for : Option Held → Table → Bool
no_room_for (Some h) t = false
no_room_for None t = leb room t.count

-- "An entry with a proof is Live, any other is Potential."
abbrev pub is_live : Peer → Bool
is_live p = p.proven

abbrev pub is_potential : Peer → Bool
is_potential p = not p.proven

abbrev pub live_for : Option Held → Bool
live_for (Some h) = is_live h.peer
live_for None = false

abbrev pub potential_for : Option Held → Bool
potential_for (Some h) = is_potential h.peer
potential_for None = false

-- "Going from not Live to Live"
abbrev pub becomes_live : Option Held → Bool → Bool
becomes_live held proves = proves && not (live_for held)
