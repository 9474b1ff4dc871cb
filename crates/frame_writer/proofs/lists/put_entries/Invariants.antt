use Rattle.std.specs.Prelude.{◌≡◌, ◌+◌, ◌*◌, drop}
use Rattle.std.proofs.lemmas.List.Edits.{sets}
use Rattle.frame_writer.specs.Frame.{list_octets}
use Rattle.frame_writer.proofs.lists.put_entries.Given as goal

-- what is left, stored from here, makes the whole
abbrev pub invariant-loop-i : goal.invariant-loop-i
invariant-loop-i l =
    sets l.out (l.at + l.i * 16) (list_octets (drop l.i l.entries)) ≡ sets l.initial.out l.at (list_octets l.entries)
