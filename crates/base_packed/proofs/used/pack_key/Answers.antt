use Rattle.base_packed.proofs.Laws.{key-sum, bit-lt, byte-bit}
use Rattle.base_packed.proofs.used.pack_key.Goals as goal

pub returns : goal.returns
returns c = let f = c.args.f in simp byte-bit (key-sum f.an _ _ (bit-lt f.transmit) (bit-lt f.receive))
