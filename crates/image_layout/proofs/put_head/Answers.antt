use Rattle.std.proofs.Common.{rules}
use Rattle.base_octets.proofs.Laws.{sets-append, length-be_of}
use Rattle.image_layout.specs.Layout.{contents_head}
use Rattle.image_layout.proofs.put_head.Goals as goal

pub returns : goal.returns
unfolding contents_head
returns c = simp (sets-append, length-be_of) (search rules)
