use Rattle.std.proofs.Common.{◌-◌}
use Rattle.portcalls.proofs.listing.SetsDisplay.fmt.Given as goal

abbrev pub decreases-loop-set : goal.decreases-loop-set
decreases-loop-set g l = l.reader.position.stop - l.reader.position.at
