use Rattle.std.proofs.Common.{ℕ, ◌+◌, ◌*◌, ◌≡◌, ap, refl, sym, ◌∙◌, arith, length, length-take, min, map, List}
use Rattle.std.proofs.lemmas.List.{take_all}
use Rattle.std.proofs.lemmas.List.Edits.{sets}
use Rattle.base_mi.specs.declared.entry.Entry.{Entry}
use Rattle.law_lists.specs.Lists.{those}
use Rattle.table.specs.Table.{entries}
use Rattle.table.specs.declared.Peer.{Peer}
use Rattle.table_counts.specs.Counts.{is_of, entry_of}
use Rattle.frame_writer.specs.Frame.{set_header, list_octets}
use Rattle.call_lists.specs.Lists.{list_type, peer_list}
use Rattle.call_lists.proofs.Lists.{picked, entry_kept, entry_gone, none-stored, some_stored}
use Rattle.call_lists.proofs.put_list.Goals as goal
use Rattle.call_lists.proofs.put_list.Goals.{else-is_of, then-is_of, After-loop-p}

pub loop-p-init : goal.loop-p-init
unfolding list_octets
loop-p-init c = (omega (arith, ap length c.held-p-items.ensures, length-take (min c.args.t.now.count 16) c.args.t.now.peers), omega arith, refl, refl)

pub loop-p-preserved : goal.loop-p-preserved
loop-p-preserved c =
    let f = is_of c.args.live in
    let v = c.loop-p.invariant in
    elim c.if-is_of.branch [
      | then-is_of w ↦ let m = entry_kept f _ c.loop-p.p-index _ c.args.out.now c.loop-p.out (c.args.at + 4) c.loop-p.k c.loop-p-test.true v.2 v.3 _ _ (sym c.is_of.ensures ∙ w.if-is_of.true) w.entry_of.ensures w.put_entry.ensures in
          (v.0, omega arith, w.k-is ∙ m.0, w.out-is ∙ m.1)
      | else-is_of w ↦ let m = entry_gone f _ c.loop-p.p-index _ c.args.out.now c.loop-p.out (c.args.at + 4) c.loop-p.k c.loop-p-test.true v.2 v.3 (sym c.is_of.ensures ∙ w.if-is_of.false) in
          (v.0, omega arith, w.k-is ∙ m.0, w.out-is ∙ m.1)
    ]

-- all of them are gone through
whole : (c : After-loop-p) → picked c.args.live c.held-p-items.result.now c.loop-p.p-index ≡ map entry_of (those (is_of c.args.live) (entries c.args.t.now))
whole c = ap (λ (l : List Peer). map entry_of (those (is_of c.args.live) l)) (take_all c.loop-p.p-index c.held-p-items.result.now c.loop-p-test.false ∙ c.held-p-items.ensures)

pub returns-then-k-eq0 : goal.returns-then-k-eq0
unfolding peer_list
returns-then-k-eq0 c =
    let l = c.loop-p in
    let a = c.args in
    let all = whole (goal.at.returns-then-k-eq0 c).After-loop-p in
    none-stored a.out.now l.out a.at (list_type a.live) l.k (map entry_of (those (is_of a.live) (entries a.t.now)))
    (l.invariant.2 ∙ ap (length {A = Entry}) all) (l.invariant.3 ∙ ap (λ (es : List Entry). sets a.out.now (a.at + 4) (list_octets es)) all) c.if-k-eq0.true

pub returns : goal.returns
unfolding peer_list
returns c =
    let l = c.loop-p in
    let a = c.args in
    let all = whole (goal.at.returns c).After-loop-p in
    some_stored a.out.now l.out a.at (list_type a.live) l.k (map entry_of (those (is_of a.live) (entries a.t.now)))
    (l.invariant.2 ∙ ap (length {A = Entry}) all) (l.invariant.3 ∙ ap (λ (es : List Entry). sets a.out.now (a.at + 4) (list_octets es)) all)
    _ c.if-k-eq0.false (c.put_list_head.ensures ∙ ap (λ (j : ℕ). sets l.out a.at (set_header j 0 (l.k * 16))) c.kind.ensures)
