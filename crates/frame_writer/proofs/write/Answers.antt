use Rattle.std.proofs.Common.{◌≡◌, ◌-◌, ◌≤◌, ◌<◌, ltb-true, ltb-false, lt-ltb, le-ltb, sym, ◌∙◌, length, arith, rules}
use Rattle.base_facts.proofs.Laws.{check-failed, check-passed}
use Rattle.base_octets.specs.Run.{written}
use Rattle.base_octets.proofs.Stores.{sets-whole}
use Rattle.frame_writer.specs.Frame.{body_octets, frame_of}
use Rattle.frame_writer.proofs.Laws.{basic-le, entries-le, length-frame, frame-sized, size-bounds, unmapped, Wrapped}
use Rattle.frame_writer.proofs.Stores.{stored}
use Rattle.frame_writer.proofs.write.Goals.{After-frame_size-total}
use Rattle.frame_writer.proofs.write.Goals as goal

-- the length that was computed is the frame's
sized : (c : After-frame_size-total) → c.frame_size-total.result ≡ length (frame_of c.args.m)
sized c =
    let m = c.args.m in
    let a : length m.sender.ckn ≡ 32 = search rules in
    let b : length m.live.entries ≡ 16 = search (rules, unmapped) in
    let d : length m.potential.entries ≡ 16 = search (rules, unmapped) in
    let w : Wrapped m.sak = search rules in
    rw (frame-sized m a b d w, ← c.is_some.ensures, ← c.is_some-2.ensures) c.frame_size-total.ensures

bounded : (c : After-frame_size-total) → (52 ≤ c.frame_size-total.result) × (c.frame_size-total.result < 1024)
bounded c = rw c.frame_size-total.ensures (size-bounds _ _ _ _ _)

pub returns-in_default : goal.returns-in_default
unfolding written
returns-in_default c =
    let short : length c.args.out.now < length (frame_of c.args.m) = rw (← sized (goal.at.returns-in_default c).After-frame_size-total) (ltb-true _ _ (check-failed _ (sym c.fail_if.ensures ∙ c.in_default.is))) in
    (rw (lt-ltb _ _ short), rw (lt-ltb _ _ short))

pub overflow_sub-total : goal.overflow_sub-total
overflow_sub-total c = omega (arith, bounded (goal.at.overflow_sub-total c).After-frame_size-total)

pub overflow_cast-total : goal.overflow_cast-total
overflow_cast-total c = record { fits = omega (arith, bounded (goal.at.overflow_cast-total c).After-frame_size-total) }

pub put_list-b-requires : goal.put_list-b-requires
put_list-b-requires c = omega (arith, c.put_start-a.ensures.0, basic-le c.args.m.sender)

pub put_list-c-requires : goal.put_list-c-requires
put_list-c-requires c = omega (arith, c.put_start-a.ensures.0, basic-le c.args.m.sender, c.put_list-b.ensures.0, entries-le 1 c.args.m.live)

pub overflow_cast-c : goal.overflow_cast-c
overflow_cast-c c =
    let m = c.args.m in
    record { fits = omega (arith, c.put_start-a.ensures.0, basic-le m.sender, c.put_list-b.ensures.0, entries-le 1 m.live, c.put_list-c.ensures.0, entries-le 2 m.potential) }

pub returns : goal.returns
unfolding written
returns c =
    let m = c.args.m in
    let e = sized (goal.at.returns c).After-frame_size-total in
    let k : c.frame_size-total.result - 4 ≡ length (body_octets m) = omega (arith, length-frame m) in
    let held : c.frame_size-total.result ≤ length c.args.out.now = ltb-false _ _ (check-passed _ (sym c.fail_if.ensures ∙ c.in-Some.is)) in
    let room : length (frame_of m) ≤ length c.args.out.now = omega arith in
    let s = stored _ _ _ _ _ m _ _ _ c.put_start-a.ensures.0 c.put_list-b.ensures.0 c.put_list-c.ensures.0 (rw k at c.put_start-a.ensures.1) c.put_list-b.ensures.1 c.put_list-c.ensures.1 c.put_end.ensures in
    (rw (e, le-ltb _ _ room), rw (le-ltb _ _ room) (s ∙ sets-whole (frame_of m) c.args.out.now room))
