use Rattle.std.proofs.Common.{◌≡◌, ◌^◌, ◌+◌, ◌<◌, ◌≤◌, ◌||◌, sym, ◌∙◌, length, drop, arith, rules}
use Rattle.frame_walk.specs.List.{entries_in, found_in}
use Rattle.call_hearing.specs.Proof.{is_recent, any_recent, named_in}
use Rattle.call_hearing.proofs.Heard.{seek-none, named-next, entries-few}
use Rattle.call_hearing.proofs.proof.named.Goals as goal
use Rattle.call_hearing.proofs.proof.named.Goals.{In-Some}

-- the search found one more entry
next : (c : In-Some) → let es = entries_in c.args.frame.now c.args.list.place c.args.list.len in
    (c.loop-found.from ≤ c.in-Some.found.index) × (c.in-Some.found.index < length es)
    × (any_recent c.args.own c.args.last (drop c.loop-found.from es) ≡ is_recent c.in-Some.found.mn c.args.last || any_recent c.args.own c.args.last (drop (c.in-Some.found.index + 1) es))
unfolding found_in
next c = named-next c.args.own c.args.last c.loop-found.from _ c.in-Some.found c.loop-found.invariant.0 (sym c.find.ensures ∙ c.in-Some.is)

pub returns-then-recent : goal.returns-then-recent
unfolding named_in
returns-then-recent c =
    let n = next (goal.at.returns-then-recent c).In-Some in
    sym (rw (sym c.recent.ensures ∙ c.if-recent.true) at n.2) ∙ c.loop-found.invariant.1

pub overflow_add-from : goal.overflow_add-from
overflow_add-from c =
    let n = next (goal.at.overflow_add-from c).In-Some in
    let few = entries-few c.args.frame.now c.args.list.place c.args.list.len in
    let short : c.args.list.len < 2 ^ 16 = search rules in
    omega (arith, n.1)

pub loop-found-smaller : goal.loop-found-smaller
loop-found-smaller c =
    let n = next (goal.at.loop-found-smaller c).In-Some in
    omega (arith, n.0, n.1)

pub loop-found-preserved : goal.loop-found-preserved
loop-found-preserved c =
    let n = next (goal.at.loop-found-preserved c).In-Some in
    (omega (arith, n.1), sym (rw (sym c.recent.ensures ∙ c.if-recent.false) at n.2) ∙ c.loop-found.invariant.1)

pub returns : goal.returns
unfolding found_in named_in
returns c =
    sym (seek-none c.args.own c.args.last c.loop-found.from _ (sym c.find.ensures ∙ c.in_default.is)) ∙ c.loop-found.invariant.1
