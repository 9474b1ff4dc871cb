use Rattle.std.proofs.Common.{add_assoc, rules}
use Rattle.base_octets.proofs.Laws.{sets-append, length-be_of}
use Rattle.image_layout.specs.Layout.{contents_entry}
use Rattle.image_layout.proofs.put_entry.Goals as goal

pub returns : goal.returns
unfolding contents_entry
returns c = simp (sets-append, length-be_of, add_assoc) (search rules)
