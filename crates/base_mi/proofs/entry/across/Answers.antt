use Rattle.base_mi.specs.Entry.{entry_at}
use Rattle.base_mi.proofs.Laws as laws
use Rattle.base_mi.proofs.entry.across.Goals as goal

pub returns-then-s-at : goal.returns-then-s-at
returns-then-s-at c = laws.entry-out c.args.s.now c.args.at c.if-s-at.true

pub returns : goal.returns
unfolding entry_at
returns c = λ i. record { mi = c.mi_at.ensures i; mn = c.u32_at.ensures i }
