use Rattle.std.proofs.Common.{◌≡◌, ◌/◌, ◌%◌, arith, rules}
use Rattle.base_octets.specs.Number.{be_of}
use Rattle.frame_writer.proofs.lists.put_set_header.Goals as goal

pub returns : goal.returns
unfolding be_of
returns c =
    let e : c.args.len / 256 % 256 ≡ c.args.len / 256 = omega arith in
    rw (c.put_u16.ensures, c.put_octet-2.ensures, c.put_octet.ensures, e) (search rules)
