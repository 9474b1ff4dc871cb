use mathlib.Core.Path.{◌≡◌}
use lib.ListN.{length}
use Rattle.table.specs.Table.{entries}
use Rattle.image_rules.specs.Records.{peers_good}
use Rattle.image_rules_peers.proofs.peers_good.Given as goal

abbrev pub invariant-loop-q : goal.invariant-loop-q
invariant-loop-q l = peers_good l.own l.clock l.rest ≡ peers_good l.own l.clock (entries l.t)

abbrev pub decreases-loop-q : goal.decreases-loop-q
decreases-loop-q l = length l.rest
