use Rattle.std.proofs.Common.{arith, ◌+◌, ◌-◌, ◌≡◌, ◌∙◌}
use Rattle.base_mi.proofs.Laws.{cut-taken}
use Rattle.base_mi.proofs.entry.copied.Goals as goal

pub returns : goal.returns
returns c =
    let n : c.args.at + 16 - c.args.at ≡ 16 = omega arith in
    c.copy_from_slice.ensures.after ∙ rw n (cut-taken c.args.s.now c.args.at 16 c.requires)
