use Rattle.std.proofs.Common.{◌≡◌, ◌-◌, ◌≤◌, ◌<◌, ltb-true, ltb-false, lt-ltb, le-ltb, ap, sym, ◌∙◌, length, arith, rules}
use Rattle.base_facts.proofs.Laws.{check-failed, check-passed}
use Rattle.base_octets.specs.Run.{written}
use Rattle.base_octets.proofs.Stores.{sets-whole}
use Rattle.table_counts.specs.Counts.{live_list, potential_list}
use Rattle.table_counts.proofs.Listing.{live-potential, live-whole, potential-whole, live-counted, potential-counted}
use Rattle.frame_writer.specs.Frame.{body_octets, frame_size, frame_of}
use Rattle.frame_writer.specs.declared.Mkpdu.{Mkpdu}
use Rattle.frame_writer.proofs.Laws.{basic-le, entries-le, length-frame, frame-sized, size-bounds, Wrapped}
use Rattle.frame_writer.proofs.Stores.{stored}
use Rattle.call_lists.proofs.Lists.{live-set, potential-set}
use Rattle.call_send.specs.Message.{saying}
use Rattle.call_send.proofs.writing.put_frame.Goals.{After-frame_size-total, After-put_list-b, After-put_list-c}
use Rattle.call_send.proofs.writing.put_frame.Goals as goal

abbrev said : After-frame_size-total → Mkpdu
said c = saying c.args.x.now c.args.t.now c.args.usage c.args.sak

-- the length that was computed is the frame's
sized : (c : After-frame_size-total) → c.frame_size-total.result ≡ length (frame_of (said c))
sized c =
    let m = said c in
    let t = c.args.t.now in
    let a : length m.sender.ckn ≡ 32 = search rules in
    let w : Wrapped m.sak = search rules in
    let live : m.live.count ≡ c.args.live = live-counted t ∙ sym c.requires in
    let others : m.potential.count ≡ c.saturating_sub-potential.result =
    potential-counted t ∙ omega (arith, live-potential t, c.requires, c.saturating_sub-potential.ensures, ap length c.held.ensures) in
    c.frame_size-total.ensures
    ∙ (λ i. frame_size c.args.x.now.size (sym live i) (sym others i) (c.is_some.ensures i) (c.is_some-2.ensures i))
    ∙ sym (frame-sized m a (live-whole t) (potential-whole t) w)

bounded : (c : After-frame_size-total) → (52 ≤ c.frame_size-total.result) × (c.frame_size-total.result < 1024)
bounded c = rw c.frame_size-total.ensures (size-bounds _ _ _ _ _)

pub returns-in_default : goal.returns-in_default
unfolding written
returns-in_default c =
    let at = goal.at.returns-in_default c in
    let short : length c.args.out.now < length (frame_of (said at.After-frame_size-total)) =
    rw (← sized at.After-frame_size-total) (ltb-true _ _ (check-failed _ (sym c.fail_if.ensures ∙ c.in_default.is))) in
    (rw (lt-ltb _ _ short), rw (lt-ltb _ _ short))

pub overflow_sub-total : goal.overflow_sub-total
overflow_sub-total c = omega (arith, bounded (goal.at.overflow_sub-total c).After-frame_size-total)

pub overflow_cast-total : goal.overflow_cast-total
overflow_cast-total c = record { fits = omega (arith, bounded (goal.at.overflow_cast-total c).After-frame_size-total) }

pub overflow_cast-a : goal.overflow_cast-a
overflow_cast-a c = record { fits = omega (arith, c.put_start-a.ensures.0, basic-le c.args.x.now) }

pub overflow_cast-b : goal.overflow_cast-b
overflow_cast-b c =
    let t = c.args.t.now in
    record { fits = omega (arith, c.put_start-a.ensures.0, basic-le c.args.x.now, c.put_list-b.ensures.0, entries-le 1 (live_list t), ap length (live-set t)) }

pub overflow_cast-c : goal.overflow_cast-c
overflow_cast-c c =
    let t = c.args.t.now in
    record { fits = omega (arith, c.put_start-a.ensures.0, basic-le c.args.x.now, c.put_list-b.ensures.0, entries-le 1 (live_list t), ap length (live-set t), c.put_list-c.ensures.0, entries-le 2 (potential_list t), ap length (potential-set t)) }

pub returns : goal.returns
unfolding written
returns c =
    let at = goal.at.returns c in
    let m = said at.After-frame_size-total in
    let t = c.args.t.now in
    let e = sized at.After-frame_size-total in
    let k : c.frame_size-total.result - 4 ≡ length (body_octets m) = omega (arith, length-frame m) in
    let held : c.frame_size-total.result ≤ length c.args.out.now = ltb-false _ _ (check-passed _ (sym c.fail_if.ensures ∙ c.in-Some.is)) in
    let room : length (frame_of m) ≤ length c.args.out.now = omega arith in
    let b = rw (← live-set t) at c.put_list-b.ensures in
    let d = rw (← potential-set t) at c.put_list-c.ensures in
    let s = stored _ _ _ _ _ m _ _ _ c.put_start-a.ensures.0 b.0 d.0 (rw k at c.put_start-a.ensures.1) b.1 d.1 c.put_end.ensures in
    (rw (e, le-ltb _ _ room), rw (le-ltb _ _ room) (s ∙ sets-whole (frame_of m) c.args.out.now room))
