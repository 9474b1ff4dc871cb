use Rattle.std.proofs.Common.{◌≡◌, ◌+◌, ◌/◌, drop}
use Rattle.frame_walk.specs.List.{entries_from, seek_entry}
use Rattle.frame_walk.proofs.list.find.Given as goal

abbrev pub invariant-loop-i : goal.invariant-loop-i
invariant-loop-i l =
    let es = entries_from (l.len / 16) l.frame (l.place + 4) in
    seek_entry l.m l.i (drop l.i es) ≡ seek_entry l.m l.from (drop l.from es)
