use Rattle.std.proofs.Common.{ℕ, arith, sym, ◌∙◌, ◌≡◌, ◌+◌, ◌-◌, replicate, length, take, drop, length-drop, length-take-le}
use Rattle.std.proofs.lemmas.List.{length-replicate, take-replicate}
use Rattle.base_octets.proofs.Laws.{sets-out, sets_short}
use Rattle.base_runs.proofs.put_zeros.Goals as goal

pub returns-then-at-out : goal.returns-then-at-out
returns-then-at-out c =
    let a = c.args in
    let m = c.min.result in
    let k : a.at + m - a.at ≡ m = omega arith in
    let len : length (take (a.at + m - a.at) (drop a.at a.out.now)) ≡ m = length-take-le _ (drop a.at a.out.now) (omega (arith, length-drop a.at a.out.now)) ∙ k in
    sets_short _ _ (replicate a.n 0) a.at _ m (omega arith) k (omega (arith, length-replicate {A = ℕ} a.n 0))
    (c.fill.ensures.after (λ y e. e) ∙ rw (len, take-replicate {X = ℕ} m a.n 0 (omega arith)))

pub returns-else-at-out : goal.returns-else-at-out
returns-else-at-out c = sym (sets-out c.args.out.now (replicate c.args.n 0) c.args.at c.if-at-out.false)
