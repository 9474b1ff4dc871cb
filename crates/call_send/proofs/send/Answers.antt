use Rattle.std.proofs.Common.{◌≡◌, sym, ap, ◌∙◌, false}
use Rattle.std.specs.Prelude.{eqb}
use Rattle.base_facts.proofs.Laws.{check-failed, check-passed}
use Rattle.base_octets.specs.Run.{written}
use Rattle.frame_writer.specs.Frame.{frame_of}
use Rattle.participant.specs.Call.{fact1, aged_to}
use Rattle.call_send.specs.Message.{sak_of, saying}
use Rattle.call_send.specs.Send.{frame_at, send_facts, sent_at, sent_of, left_by}
use Rattle.call_send.proofs.Laws.{wrote-refused, wrote-octets, counted, spoken}
use Rattle.call_send.proofs.send.Goals as goal
use Rattle.call_send.proofs.send.Goals.{In-Some, In-Some-fail_if, After-sak-sak}

-- facts 1 and 14 don't hold
timely : (c : In-Some) → fact1 c.args.p c.args.time ≡ false
timely c = check-passed (fact1 c.args.p c.args.time) (sym c.fail_if.ensures ∙ c.in-Some.is)

more : (c : In-Some-fail_if) → eqb c.args.p.mn 4294967295 ≡ false
more c = check-passed (eqb c.args.p.mn 4294967295) (sym c.fail_if-2.ensures ∙ c.in-Some-fail_if.is)

-- and what is written is the frame at the call's time
said : (c : After-sak-sak)
    → frame_of (saying c.sender-x.result c.expire.new.t c.usage-usage.result c.sak-sak.result) ≡ frame_at c.args.p c.args.time c.args.latest_pn c.args.old_pn
unfolding frame_at sak_of
said c =
    let a = c.args in
    ap frame_of (spoken a.p a.time a.latest_pn a.old_pn _ _ _ c.expire.ensures c.own_rank.ensures c.stand-stand.ensures _ _ _ c.sender-x.ensures c.usage-usage.ensures c.sak-sak.ensures)

pub returns-in_default : goal.returns-in_default
unfolding sent_of left_by send_facts
returns-in_default c =
    let early = check-failed (fact1 c.args.p c.args.time) (sym c.fail_if.ensures ∙ c.in_default.is) in
    (c.refused.ensures ∙ rw early, rw early)

pub returns-in_default-fail_if : goal.returns-in_default-fail_if
unfolding sent_of left_by send_facts
returns-in_default-fail_if c =
    let t = timely (goal.at.returns-in_default-fail_if c).In-Some in
    let last = check-failed (eqb c.args.p.mn 4294967295) (sym c.fail_if-2.ensures ∙ c.in_default-fail_if.is) in
    (c.refused-in_default-fail_if.ensures ∙ rw (t, last), rw (t, last))

pub put_frame-requires : goal.put_frame-requires
put_frame-requires c = let a = c.args in counted a.p a.time a.latest_pn a.old_pn _ _ _ c.expire.ensures c.own_rank.ensures c.stand-stand.ensures

pub returns-in-Ok : goal.returns-in-Ok
unfolding sent_of left_by send_facts sent_at aged_to written
returns-in-Ok c =
    let at = goal.at.returns-in-Ok c in
    let e = said at.After-sak-sak in
    let room = wrote-octets _ _ _ (sym (rw e at c.put_frame.ensures.0) ∙ c.in-Ok.is) in
    (c.accepted.ensures ∙ rw (timely at.In-Some, more at.In-Some-fail_if, room.0, room.1, c.expire.ensures), rw e at c.put_frame.ensures.1 ∙ rw (timely at.In-Some, more at.In-Some-fail_if, room.0))

pub returns-in-Err : goal.returns-in-Err
unfolding sent_of left_by send_facts written
returns-in-Err c =
    let at = goal.at.returns-in-Err c in
    let e = said at.After-sak-sak in
    let short = wrote-refused _ _ _ (sym (rw e at c.put_frame.ensures.0) ∙ c.in-Err.is) in
    (c.refused-in-Err.ensures ∙ rw (timely at.In-Some, more at.In-Some-fail_if, short.0, short.1), rw e at c.put_frame.ensures.1 ∙ rw (timely at.In-Some, more at.In-Some-fail_if, short.0))
