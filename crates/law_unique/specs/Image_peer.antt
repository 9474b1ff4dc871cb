-- The public functions of `image_peer`. Written by tools/unique.
use Rattle.std.specs.Prelude.{refl}
use Rattle.image_peer.proofs as image_peer
use Rattle.image_peer.specs.contracts as contracts
use Rattle.law_unique.specs.Law.{AsksNothing, OneAnswer, OneSeen, same}

pub image-peer·put-peers·asks-nothing : AsksNothing contracts.put_peers.signature image_peer.put_peers.Reads.requires
image-peer·put-peers·asks-nothing κs a w = refl

pub image-peer·put-peers : OneSeen image_peer.put_peers.Kinds.ps image_peer.put_peers.Kinds.r image_peer.put_peers.Reads.Learnt (λ κs z e. e.0.now)
image-peer·put-peers κs a z z' e e' h h' = same h h'

pub image-peer·peers-at·asks-nothing : AsksNothing contracts.peers_at.signature image_peer.peers_at.Reads.requires
image-peer·peers-at·asks-nothing κs a w = refl

pub image-peer·peers-at : OneSeen image_peer.peers_at.Kinds.ps image_peer.peers_at.Kinds.r image_peer.peers_at.Reads.Learnt (λ κs z e. e.0.now)
image-peer·peers-at κs a z z' e e' h h' = same h h'

pub image-peer·peers-clean·asks-nothing : AsksNothing contracts.peers_clean.signature image_peer.peers_clean.Reads.requires
image-peer·peers-clean·asks-nothing κs a w = refl

pub image-peer·peers-clean : OneAnswer image_peer.peers_clean.Kinds.ps image_peer.peers_clean.Kinds.r image_peer.peers_clean.Reads.Learnt
image-peer·peers-clean κs a z z' e e' h h' = same h h'
