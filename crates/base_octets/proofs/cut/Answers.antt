use Rattle.std.proofs.Common.{rules, arith}
use Rattle.std.proofs.Math.ListN.{length-replicate}
use Rattle.std.proofs.lemmas.List.{get_or-set_same, get_or-set_other}
use Rattle.base_octets.proofs.cut.Goals as goal

pub loop-i-init : goal.loop-i-init
loop-i-init g c = (length-replicate _ _, λ j h. absurd (omega (arith, h)))

pub loop-i-preserved : goal.loop-i-preserved
loop-i-preserved g c = (search rules, λ j h. grind (arith, h, c.loop-i.invariant.0, c.loop-i.invariant.1, c.octet.ensures, get_or-set_same, get_or-set_other))

pub returns-after-loop-i : goal.returns-after-loop-i
returns-after-loop-i g c = λ j h. c.loop-i.invariant.1 j (omega (arith, h, c.loop-i.auto.i-end))
