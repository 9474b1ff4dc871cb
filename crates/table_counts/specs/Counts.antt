-- The Live and the Potential peers: how many, and their lists "in table order".
use Rattle.std.specs.Prelude.{ℕ, Bool, cond, List, map, length}
use Rattle.base_mi.specs.declared.entry.Entry.{Entry}
use Rattle.base_mi.specs.declared.entry.Entries.{Entries}
use Rattle.table.specs.declared.Peer.{Peer}
use Rattle.table.specs.declared.Table.{Table}
use Rattle.law_lists.specs.Lists.{those, pad}
use Rattle.table.specs.Table.{room, entries}
use Rattle.table_lookup.specs.Look.{is_live, is_potential}

-- The one or the other, as asked.
abbrev pub is_of : Bool → Peer → Bool
is_of live p = cond live (is_live p) (is_potential p)

unfoldable pub live_count : Table → ℕ
live_count t = length (those is_live (entries t))

unfoldable pub potential_count : Table → ℕ
potential_count t = length (those is_potential (entries t))

-- "MI 12, MN 4"
abbrev pub entry_of : Peer → Entry
entry_of p = record { mi = p.mi; mn = p.mn }

abbrev pub blank_entry : Entry
blank_entry = record { mi = record { hi = 0; lo = 0 }; mn = 0 }

-- The entries for the writer, blank past them.
abbrev pub list_of : List Entry → Entries
list_of l = record { entries = pad room blank_entry l; count = length l }

unfoldable pub live_list : Table → Entries
live_list t = list_of (map entry_of (those is_live (entries t)))

unfoldable pub potential_list : Table → Entries
potential_list t = list_of (map entry_of (those is_potential (entries t)))
