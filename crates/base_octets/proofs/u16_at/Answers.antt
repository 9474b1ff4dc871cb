use Rattle.std.proofs.Common.{arith, lit<}
use Rattle.base_octets.specs.Number.{be_at}
use Rattle.base_octets.proofs.u16_at.Goals as goal

pub returns : goal.returns
unfolding be_at
returns c = let e = c.octets.ensures in omega (arith, c.from_be_bytes.ensures, e 0 (lit< tt), e 1 (lit< tt))
