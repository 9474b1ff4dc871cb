use Rattle.std.proofs.Common.{sym, ◌∙◌, ◌≡◌, false, rules, Err}
use Rattle.base_facts.proofs.Laws.{check-passed}
use Rattle.participant.specs.Call.{fact1}
use Rattle.call_judge.proofs.Laws.{judged-basic-bad, foreign-bad, foreign-good}
use Rattle.call_judge.proofs.judge.Goals as goal
use Rattle.call_judge.proofs.judge.Goals.{In-Some}

timely : (c : In-Some) → fact1 c.args.p.now c.args.time ≡ false
timely c = check-passed (fact1 c.args.p.now c.args.time) (sym c.fail_if.ensures ∙ c.in-Some.is)

pub returns-in_err-basic : goal.returns-in_err-basic
returns-in_err-basic c =
    let at = goal.at.returns-in_err-basic c in
    let a = c.args in
    let e : c.from_residual.result ≡ Err c.in_err-basic.field-0.0 = search rules in
    e ∙ sym (judged-basic-bad a.p.now a.time a.verdict a.frame.now (timely at.In-Some) _ (sym c.in_err-basic.ensures))

pub returns-in_err-foreign : goal.returns-in_err-foreign
returns-in_err-foreign c =
    let at = goal.at.returns-in_err-foreign c in
    let a = c.args in
    let e : c.from_residual-in_err-foreign.result ≡ Err c.in_err-foreign.field-0.0 = search rules in
    e ∙ sym (foreign-bad a.p.now a.time a.verdict a.frame.now (timely at.In-Some) c.in_ok-basic.basic (sym c.in_ok-basic.ensures) _ (rw (← c.min.ensures) (sym c.in_err-foreign.ensures)))

pub returns-in_default-walk : goal.returns-in_default-walk
returns-in_default-walk c =
    let at = goal.at.returns-in_default-walk c in
    let a = c.args in
    let walked = sym c.walk.ensures ∙ c.in_default-walk.is in
    sym (foreign-good a.p.now a.time a.verdict a.frame.now (timely at.In-Some) c.in_ok-basic.basic (sym c.in_ok-basic.ensures) (rw (← c.min.ensures) (sym c.in_ok-foreign.ensures)) ∙ rw walked)

pub returns : goal.returns
returns c =
    let at = goal.at.returns c in
    let a = c.args in
    let walked = sym c.walk.ensures ∙ c.in-Ok.is in
    sym (foreign-good a.p.now a.time a.verdict a.frame.now (timely at.In-Some) c.in_ok-basic.basic (sym c.in_ok-basic.ensures) (rw (← c.min.ensures) (sym c.in_ok-foreign.ensures)) ∙ rw walked)
