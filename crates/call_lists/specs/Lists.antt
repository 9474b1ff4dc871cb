-- "Sending": a peer list of a frame, by the table that it is written from.
use Rattle.std.specs.Prelude.{ℕ, Bool, cond, List, map}
use Rattle.law_lists.specs.Lists.{those}
use Rattle.table.specs.declared.Table.{Table}
use Rattle.table.specs.Table.{entries}
use Rattle.table_counts.specs.Counts.{is_of, entry_of}
use Rattle.frame_writer.specs.Frame.{list_set}

-- The type of the set: 1 for a Live list, 2 for a Potential one.
abbrev pub list_type : Bool → ℕ
list_type live = cond live 1 2

-- "Live, Potential (each only if not empty, in table order)"
unfoldable pub peer_list : Bool → Table → List ℕ
peer_list live t = list_set (list_type live) (map entry_of (those (is_of live) (entries t)))
