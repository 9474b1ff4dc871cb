use Rattle.std.proofs.Common.{arith, ne_eqb, ◌≡◌, min}
use Rattle.frame_writer.specs.Frame.{list_size}
use Rattle.frame_writer.proofs.list_size.Goals as goal

pub returns-in-0 : goal.returns-in-0
unfolding list_size
returns-in-0 c = let e : min c.args.count 16 ≡ 0 = omega arith in (rw e, omega arith)

pub returns-in_default : goal.returns-in_default
unfolding list_size
returns-in_default c = let n : min c.args.count 16 ≡ 0 → ⊥ = omega arith in (rw (ne_eqb _ _ n) (omega arith), omega arith)
