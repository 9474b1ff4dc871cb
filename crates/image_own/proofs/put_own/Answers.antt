use Rattle.std.proofs.Common.{◌≡◌, length, add_assoc, append_assoc, rules}
use Rattle.base_octets.proofs.Laws.{sets-append, length-be_of}
use Rattle.base_mi.proofs.Laws.{length-mi}
use Rattle.image_own.specs.Own.{named_octets, times_octets, kept_octets, own_octets}
use Rattle.image_own.proofs.put_own.Goals as goal

pub returns : goal.returns
unfolding named_octets times_octets kept_octets own_octets
returns c =
    let n : length c.args.p.now.ckn ≡ 32 = search rules in
    simp (append_assoc, sets-append, length-be_of, length-mi, n, add_assoc) (search rules)
