use Rattle.std.proofs.Common.{◌≡◌, ap, sym, ◌∙◌, ◌<◌, min, length, length-take, arith}
use Rattle.table.specs.declared.Table.{Table}
use Rattle.table.specs.Table.{room, entries}
use Rattle.table_expiry.specs.Expiry.{expired}
use Rattle.table_expiry.proofs.Aging.{expired-steady, taken_again}
use Rattle.table_expiry.proofs.Steady.{steady-from}
use Rattle.table_expiry.proofs.Moving.{moved-kept, moved-gone}
use Rattle.table_expiry.proofs.expire.Goals as goal
use Rattle.table_expiry.proofs.expire.Goals.{else-fresh, then-fresh}

pub returns-then-is_steady : goal.returns-then-is_steady
returns-then-is_steady c =
    rw c.held-n.ensures
    (sym (expired-steady c.args.time c.args.t.now (sym (steady-from c.args.time (entries c.args.t.now)) ∙ sym c.is_steady.ensures ∙ c.if-is_steady.true)))

pub loop-i-preserved : goal.loop-i-preserved
loop-i-preserved c =
    let l = c.args.t.now.peers in
    let at : c.loop-i.i < length l = omega (arith, ap length c.held-n.ensures, length-take (min c.args.t.now.count 16) l) in
    let v = c.loop-i.invariant in
    elim c.if-fresh.branch [
      | then-fresh w ↦ let m = moved-kept c.args.time l c.loop-i.i _ c.loop-i.k _ at v.1 v.2 c.blank.ensures _ (sym c.fresh.ensures ∙ w.if-fresh.true) w.aged.ensures in
          (omega arith, w.k-is ∙ m.0, ap (λ (t : Table). t.peers) w.t-is ∙ m.1)
      | else-fresh w ↦ let m = moved-gone c.args.time l c.loop-i.i _ c.loop-i.k _ at v.1 v.2 c.blank.ensures (sym c.fresh.ensures ∙ w.if-fresh.false) in
          (omega arith, w.k-is ∙ m.0, ap (λ (t : Table). t.peers) w.t-is ∙ m.1)
    ]

pub returns : goal.returns
unfolding expired
returns c =
    let e : c.loop-i.i ≡ length (entries c.args.t.now) = omega (arith, ap length c.held-n.ensures) in
    let same = taken_again (min c.args.t.now.count room) c.args.t.now.peers in
    rw (c.loop-i.invariant.1, c.loop-i.invariant.2, e, same)
