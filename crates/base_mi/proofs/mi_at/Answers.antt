use Prim.Native.Nat.{◌+◌, ◌≤◌}
use mathlib.Core.Path.{sym}
use lib.ListN.{length}
use Rattle.base_mi.specs.Mi.{mi_at}
use Rattle.base_octets.proofs.Laws.{be_at-out}
use native.Mathlib.Omega.{arith}
use Rattle.base_mi.proofs.mi_at.Goals as goal

pub returns-then-s-at : goal.returns-then-s-at
unfolding mi_at
returns-then-s-at c =
    let s = c.args.s.now in
    let at = c.args.at in
    let far : length s ≤ at + 8 = omega arith in
    λ i. record { hi = sym (be_at-out s at 8 c.if-s-at.true) i; lo = sym (be_at-out s (at + 8) 4 far) i }

pub returns : goal.returns
unfolding mi_at
returns c = λ i. record { hi = c.u64_at.ensures i; lo = c.u32_at.ensures i }
