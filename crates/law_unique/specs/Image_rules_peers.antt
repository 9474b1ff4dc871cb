-- The public functions of `image_rules_peers`. Written by tools/unique.
use Rattle.std.specs.Prelude.{refl}
use Rattle.image_rules_peers.proofs as image_rules_peers
use Rattle.image_rules_peers.specs.contracts as contracts
use Rattle.law_unique.specs.Law.{AsksNothing, OneAnswer, same}

pub image-rules-peers·peers-good·asks-nothing : AsksNothing contracts.peers_good.signature image_rules_peers.peers_good.Reads.requires
image-rules-peers·peers-good·asks-nothing κs a w = refl

pub image-rules-peers·peers-good : OneAnswer image_rules_peers.peers_good.Kinds.ps image_rules_peers.peers_good.Kinds.r image_rules_peers.peers_good.Reads.Learnt
image-rules-peers·peers-good κs a z z' e e' h h' = same h h'
