-- "At most 16 peers": the table, in order of entry.
use Rattle.std.specs.Prelude.{ℕ, ◌+◌, min, false, cond, List, [], length, take, set, ltb}
use Rattle.table.specs.declared.Peer.{Peer}
use Rattle.table.specs.declared.Table.{Table}
use Rattle.law_lists.specs.Lists.{pad}

abbrev pub room : ℕ
room = 16

-- What stands in a slot past the count.
abbrev pub blank_peer : Peer
blank_peer = record {
  mi = record { hi = 0; lo = 0 };
  mn = 0;
  sci = 0;
  accepted = 0;
  proof = 0;
  priority = 0;
  capability = 0;
  server = false;
  desired = false;
  proven = false;
}

-- The entries that a table holds. A count above 16 is taken as 16.
abbrev pub entries : Table → List Peer
entries t = take (min t.count room) t.peers

-- The table of a list of entries, blank past them.
abbrev pub table_of : List Peer → Table
table_of l = record { peers = pad room blank_peer l; count = length l }

unfoldable pub empty_table : Table
empty_table = table_of []

-- One more entry "at the end of the table". A full table stays as it is.
unfoldable pub pushed : Table → Peer → Table
pushed t p = cond (ltb t.count room) (record { peers = set t.peers t.count p; count = t.count + 1 }) t
