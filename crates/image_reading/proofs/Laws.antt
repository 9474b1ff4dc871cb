-- The rules of a participant whose peers stand beside it: only theirs look at the table.
use Rattle.std.specs.Prelude.{◌≡◌, ◌&&◌}
use Rattle.table.specs.declared.Table.{Table}
use Rattle.table.specs.Table.{entries}
use Rattle.participant.specs.declared.Participant.{Participant}
use Rattle.participant.specs.Record.{set_table}
use Rattle.image_rules.specs.Rules.{unused_zero, rules}
use Rattle.image_rules.specs.Records.{own_good, peers_good, keys_good}
use Rattle.image_rules.specs.ByRecord.{by_record}

pub apart : (t : Table) (p : Participant) → rules (set_table t p) ≡ (own_good p && (peers_good p.mi p.clock (entries t) && keys_good p))
unfolding own_good unused_zero keys_good
apart t p = by_record (set_table t p)
