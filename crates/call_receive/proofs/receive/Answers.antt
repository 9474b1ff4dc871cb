use Rattle.std.proofs.Common.{◌≡◌, sym, ◌∙◌, ap, ◌||◌}
use Rattle.base_facts.proofs.Laws.{check-failed, check-passed}
use Rattle.table_enter.specs.Enter.{entered_at}
use Rattle.table_lookup.specs.Look.{becomes_live}
use Rattle.participant.specs.Record.{set_mark, set_clock, set_table}
use Rattle.call_hearing.specs.Keys.{keyed_of}
use Rattle.call_accept.specs.Accept.{accepted_of, settled_by}
use Rattle.call_receive.specs.Receive.{received_of}
use Rattle.call_receive.proofs.Settled.{received-refused, received-own, received-settled, settled-stale, settled-full, settled-good}
use Rattle.call_receive.proofs.receive.Goals as goal
use Rattle.call_receive.proofs.receive.Goals.{In-Some}

-- the frame is good, and its sender another than we: facts 11 and 12 are left
good : (c : In-Some) → let a = c.args in let j = c.in-Ok.judged in received_of a.p a.time a.verdict a.frame.now ≡ settled_by a.p a.time a.frame.now j.basic j.places
good c =
    let a = c.args in
    received-settled a.p a.time a.verdict a.frame.now _ _ (sym c.judge.ensures ∙ c.in-Ok.is) (sym c.eq.ensures ∙ check-passed c.eq.result (sym c.fail_if.ensures ∙ c.in-Some.is))

pub returns-in-Err : goal.returns-in-Err
returns-in-Err c = let a = c.args in c.refused.ensures ∙ sym (received-refused a.p a.time a.verdict a.frame.now _ (sym c.judge.ensures ∙ c.in-Err.is))

pub returns-in_default : goal.returns-in_default
returns-in_default c =
    let a = c.args in
    c.refused-in_default.ensures
    ∙ sym (received-own a.p a.time a.verdict a.frame.now _ _ (sym c.judge.ensures ∙ c.in-Ok.is) (sym c.eq.ensures ∙ check-failed c.eq.result (sym c.fail_if.ensures ∙ c.in_default.is)))

pub returns-in_default-fail_if : goal.returns-in_default-fail_if
returns-in_default-fail_if c =
    let j = c.in-Ok.judged in
    let old = sym c.stale.ensures ∙ check-failed c.stale.result (sym c.fail_if-2.ensures ∙ c.in_default-fail_if.is) in
    c.refused-in_default-fail_if.ensures
    ∙ sym (good (goal.at.returns-in_default-fail_if c).In-Some ∙ settled-stale c.args.p c.args.time c.args.frame.now j.basic j.places _ _ c.expire.ensures c.look-held.ensures old)

pub returns-in_default-fail_if-2 : goal.returns-in_default-fail_if-2
returns-in_default-fail_if-2 c =
    let j = c.in-Ok.judged in
    let new = sym c.stale.ensures ∙ check-passed c.stale.result (sym c.fail_if-2.ensures ∙ c.in-Some-fail_if.is) in
    let none = sym c.no_room.ensures ∙ check-failed c.no_room.result (sym c.fail_if-3.ensures ∙ c.in_default-fail_if-2.is) in
    c.refused-in_default-fail_if-2.ensures
    ∙ sym (good (goal.at.returns-in_default-fail_if-2 c).In-Some ∙ settled-full c.args.p c.args.time c.args.frame.now j.basic j.places _ _ c.expire.ensures c.look-held.ensures new none)

pub returns : goal.returns
returns c =
    let p = c.args.p in
    let j = c.in-Ok.judged in
    let new = sym c.stale.ensures ∙ check-passed c.stale.result (sym c.fail_if-2.ensures ∙ c.in-Some-fail_if.is) in
    let room = sym c.no_room.ensures ∙ check-passed c.no_room.result (sym c.fail_if-3.ensures ∙ c.in-Some-fail_if-2.is) in
    let live = c.becomes_live.ensures ∙ ap (becomes_live c.look-held.result) c.proves-proves.ensures in
    let table = c.enter.ensures ∙ (λ i. entered_at c.look-held.result (c.heard_of-heard.ensures i) (c.proves-proves.ensures i) c.args.time c.expire.new.t) in
    c.accepted.ensures
    ∙ (λ i. accepted_of (record { participant = c.take_sak_into-wrapped.ensures.1 i; wrapped = c.take_sak_into-wrapped.ensures.0 i }))
    ∙ (λ i. accepted_of (keyed_of (set_mark (p.mark || live i) (set_clock c.args.time (set_table (table i) p))) c.args.frame.now j.basic.mi j.places.sak))
    ∙ sym (good (goal.at.returns c).In-Some ∙ settled-good p c.args.time c.args.frame.now j.basic j.places _ _ c.expire.ensures c.look-held.ensures new room)
