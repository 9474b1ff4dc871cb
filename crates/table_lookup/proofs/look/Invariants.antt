use Rattle.std.proofs.Common.{◌≡◌, drop}
use Rattle.table_lookup.specs.Look.{seek}
use Rattle.table_lookup.proofs.look.Given as goal

abbrev pub invariant-loop-at : goal.invariant-loop-at
invariant-loop-at l = seek l.m l.at (drop l.at l.p-items) ≡ seek l.m 0 l.p-items
