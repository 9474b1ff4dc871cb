use Rattle.std.proofs.Common.{arith, rules, ◌≡◌, length}
use Rattle.base_octets.proofs.Laws.{sets-part}
use Rattle.base_octets.proofs.put.Goals as goal

pub returns-then-out-at : goal.returns-then-out-at
returns-then-out-at g c =
    let n : length c.args.octets ≡ g.row.N = search rules in
    sets-part _ _ c.args.octets c.args.at _ (omega arith) c.copy_from_slice.ensures.after (omega arith)
