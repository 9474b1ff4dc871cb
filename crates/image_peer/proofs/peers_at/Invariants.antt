use mathlib.Core.Path.{◌≡◌}
use Rattle.law_lists.specs.Lists.{pad}
use Rattle.table.specs.Table.{blank_peer}
use Rattle.image_peer.specs.Peer.{peers_at}
use Rattle.image_peer.proofs.peers_at.Given as goal

abbrev pub invariant-loop-i : goal.invariant-loop-i
invariant-loop-i l = l.t.peers ≡ pad 16 blank_peer (peers_at l.s l.at l.i)
