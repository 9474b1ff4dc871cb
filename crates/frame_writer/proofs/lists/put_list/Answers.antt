use Rattle.std.proofs.Common.{refl, arith, rules, length, take, ◌*◌}
use Rattle.base_octets.proofs.Stores.{sets-two}
use Rattle.frame_writer.proofs.Laws.{no-list, some-list, length_some}
use Rattle.frame_writer.specs.Frame.{set_header, list_octets}
use Rattle.frame_writer.proofs.lists.put_list.Goals as goal

pub returns-then-n-eq0 : goal.returns-then-n-eq0
returns-then-n-eq0 c = rw (← c.min.ensures, no-list c.args.t (take c.min.result c.args.l.now.entries) c.if-n-eq0.true) (search rules)

pub returns : goal.returns
returns c =
    let es = take c.min.result c.args.l.now.entries in
    rw (← c.min.ensures) (
      omega (arith, length_some c.args.t es c.if-n-eq0.false),
      rw (some-list c.args.t es c.if-n-eq0.false)
          (sets-two _ _ _ c.args.at 4 (set_header c.args.t 0 (length es * 16)) (list_octets es) refl c.put_set_header.ensures c.put_entries.ensures),
    )
