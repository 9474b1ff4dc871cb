use Prim.Native.Nat.{◌+◌, ◌*◌}
use mathlib.Core.Path.{◌≡◌}
use lib.ListN.{drop}
use lib.Seq.{sets}
use Rattle.table.specs.Table.{entries}
use Rattle.image_peer.specs.Peer.{peers_octets}
use Rattle.image_peer.proofs.put_peers.Given as goal

abbrev pub invariant-loop-i : goal.invariant-loop-i
invariant-loop-i l = sets l.out (l.at + l.i * 44) (peers_octets (drop l.i (entries l.t))) ≡ sets l.fn.out l.at (peers_octets (entries l.t))
