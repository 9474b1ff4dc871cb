use Rattle.std.proofs.Common.{add_assoc, rules}
use Rattle.base_octets.proofs.Laws.{sets-append}
use Rattle.image_layout.proofs.Laws.{length-head, length-entry}
use Rattle.image.specs.Image.{contents_for}
use Rattle.image.proofs.put_contents.Goals as goal

pub returns : goal.returns
unfolding contents_for
returns c = simp (sets-append, length-head, length-entry, add_assoc) (search rules)
