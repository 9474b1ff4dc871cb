use Rattle.base_packed.proofs.Laws.{basic-sum, bit-lt, byte-bit}
use Rattle.base_packed.proofs.basic.U8FromFlags.from.Goals as goal

pub returns : goal.returns
returns c = let f = c.args.f in simp byte-bit (basic-sum _ _ f.capability f.high (bit-lt f.server) (bit-lt f.desired))
