use Rattle.std.proofs.Common.{arith, length, ◌∙◌, ◌≤◌, drop_of_length-le}
use Rattle.base_mi.specs.declared.entry.Entry.{Entry}
use Rattle.base_mi.specs.Entry.{entry_octets}
use Rattle.base_mi.proofs.Laws.{length-entry}
use Rattle.base_octets.proofs.Stores.{runs-next}
use Rattle.frame_writer.specs.Frame.{list_octets}
use Rattle.frame_writer.proofs.lists.put_entries.Goals as goal

abbrev zero-entry : Entry
zero-entry = record { mi = record { hi = 0; lo = 0 }; mn = 0 }

pub loop-i-preserved : goal.loop-i-preserved
unfolding list_octets
loop-i-preserved c =
    runs-next entry_octets 16 length-entry c.loop-i.out _ c.args.at c.loop-i.i c.args.entries.now zero-entry c.loop-i-test.true c.put_entry.ensures ∙ c.loop-i.invariant

pub returns : goal.returns
unfolding list_octets
returns c =
    let z : length c.args.entries.now ≤ c.loop-i.i = omega arith in
    rw (drop_of_length-le c.args.entries.now z) at c.loop-i.invariant
