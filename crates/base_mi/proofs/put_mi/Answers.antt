use mathlib.Core.Path.{sym}
use Rattle.base_octets.specs.Number.{be_of}
use Rattle.base_mi.specs.Mi.{mi_octets}
use Rattle.base_octets.proofs.Laws.{sets-out, sets_then, length-be_of}
use Rattle.base_mi.proofs.put_mi.Goals as goal

pub returns-then-out-at : goal.returns-then-out-at
returns-then-out-at c = let a = c.args in sym (sets-out a.out.now (mi_octets a.m) a.at c.if-out-at.true)

pub returns : goal.returns
unfolding mi_octets
returns c =
    let a = c.args in
    cc (sets_then a.out.now a.at 8 (be_of 8 a.m.hi) (be_of 4 a.m.lo) (length-be_of 8 a.m.hi))
