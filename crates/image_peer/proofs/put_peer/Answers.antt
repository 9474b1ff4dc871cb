use Rattle.std.proofs.Common.{add_assoc, rules}
use Rattle.base_octets.proofs.Laws.{sets-append, length-be_of}
use Rattle.base_mi.proofs.Laws.{length-mi}
use Rattle.image_peer.specs.Peer.{peer_octets}
use Rattle.image_peer.proofs.put_peer.Goals as goal

pub returns : goal.returns
unfolding peer_octets
returns c = simp (sets-append, length-be_of, length-mi, add_assoc) (search rules)
