use Rattle.std.proofs.Common.{◌≡◌, ◌≤◌, map, length, take}
use Rattle.law_lists.specs.Lists.{those}
use Rattle.table_counts.specs.Counts.{is_of, entry_of, list_of}
use Rattle.table_counts.proofs.list_of.Given as goal

abbrev pub invariant-loop-p : goal.invariant-loop-p
invariant-loop-p l =
    (length l.p-items ≤ 16) × (l.out.count ≤ l.p-index)
    × (l.out ≡ list_of (map entry_of (those (is_of l.live) (take l.p-index l.p-items))))
