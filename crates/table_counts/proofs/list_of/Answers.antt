use Rattle.std.proofs.Common.{◌≤◌, ap, sym, ◌∙◌, arith, length, map, List}
use Rattle.std.proofs.lemmas.List.{take_all}
use Rattle.table.specs.declared.Peer.{Peer}
use Rattle.law_lists.specs.Lists.{those}
use Rattle.base_mi.specs.declared.entry.Entries.{Entries}
use Rattle.table_counts.specs.Counts.{is_of, entry_of, blank_entry, list_of}
use Rattle.law_lists.proofs.Laws.{store_kept, store-gone}
use Rattle.table_expiry.proofs.Aging.{at-most-16}
use Rattle.table_counts.proofs.list_of.Goals as goal
use Rattle.table_counts.proofs.list_of.Goals.{else-is_of, then-is_of}

pub loop-p-init : goal.loop-p-init
loop-p-init c =
    let few : length c.held-p-items.result.now ≤ 16 = omega (arith, ap length c.held-p-items.ensures, at-most-16 c.args.t.now) in
    (few, rw c.blank_list-out.ensures (omega arith), c.blank_list-out.ensures)

pub loop-p-preserved : goal.loop-p-preserved
loop-p-preserved c =
    let f = is_of c.args.live in
    let v = c.loop-p.invariant in
    let count = ap (λ (o : Entries). o.count) v.2 in
    let stored = ap (λ (o : Entries). o.entries) v.2 in
    elim c.if-is_of.branch [
      | then-is_of w ↦ let m = store_kept entry_of f 16 blank_entry _ c.loop-p.p-index _ _ _ _ c.loop-p-test.true count stored (omega arith) (sym c.is_of.ensures ∙ w.if-is_of.true) w.entry_of.ensures in
          (v.0, rw w.out-is (omega arith), w.out-is ∙ (λ x. record { entries = m.1 x; count = m.0 x }))
      | else-is_of w ↦ let m = store-gone entry_of f 16 blank_entry _ c.loop-p.p-index _ _ _ blank_entry c.loop-p-test.true count stored (sym c.is_of.ensures ∙ w.if-is_of.false) in
          (v.0, rw w.out-is (omega arith), w.out-is ∙ (λ x. record { entries = m.1 x; count = m.0 x }))
    ]

pub returns : goal.returns
returns c =
    let all = take_all c.loop-p.p-index c.held-p-items.result.now c.loop-p-test.false in
    c.loop-p.invariant.2 ∙ ap (λ (l : List Peer). list_of (map entry_of (those (is_of c.args.live) l))) (all ∙ c.held-p-items.ensures)
