use Rattle.std.proofs.Common.{arith, sym}
use Rattle.base_octets.proofs.Laws.{sets-out, sets_short}
use Rattle.base_octets.proofs.put_all.Goals as goal

pub returns-then-at-out : goal.returns-then-at-out
returns-then-at-out c = sets_short _ _ c.args.src.now c.args.at _ _ (omega arith) (omega arith) c.min-n.ensures c.copy_from_slice.ensures.after

pub returns-else-at-out : goal.returns-else-at-out
returns-else-at-out c = sym (sets-out c.args.out.now c.args.src.now c.args.at c.if-at-out.false)
