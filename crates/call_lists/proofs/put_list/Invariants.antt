use Rattle.std.proofs.Common.{◌≡◌, ◌+◌, ◌≤◌, length}
use Rattle.std.proofs.lemmas.List.Edits.{sets}
use Rattle.frame_writer.specs.Frame.{list_octets}
use Rattle.call_lists.proofs.Lists.{picked}
use Rattle.call_lists.proofs.put_list.Given as goal

abbrev pub invariant-loop-p : goal.invariant-loop-p
invariant-loop-p l =
    (length l.p-items ≤ 16) × (l.k ≤ l.p-index)
    × (l.k ≡ length (picked l.live l.p-items l.p-index)) × (l.out ≡ sets l.initial.out (l.from + 4) (list_octets (picked l.live l.p-items l.p-index)))
