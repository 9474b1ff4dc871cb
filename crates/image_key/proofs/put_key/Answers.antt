use Rattle.std.proofs.Common.{add_assoc, rules}
use Rattle.base_octets.proofs.Laws.{sets-append, length-be_of}
use Rattle.base_mi.proofs.Laws.{length-mi}
use Rattle.image_key.specs.Key.{key_octets}
use Rattle.image_key.proofs.put_key.Goals as goal

pub returns : goal.returns
unfolding key_octets
returns c = simp (sets-append, length-be_of, length-mi, add_assoc) (search rules)
