use Rattle.std.proofs.Common.{◌≡◌, ◌-◌, refl, arith, length, replicate}
use Rattle.base_facts.specs.Facts.{padded_of}
use Rattle.base_octets.proofs.Stores.{sets-two}
use Rattle.frame_writer.specs.Frame.{ckn_octets}
use Rattle.frame_writer.proofs.basic.put_ckn.Goals as goal

pub returns : goal.returns
unfolding ckn_octets
returns c =
    let s = c.args.ckn.now in
    let p : c.next_multiple_of.result ≡ padded_of (length s) = omega (arith, c.next_multiple_of.ensures.value) in
    sets-two _ _ _ 36 (length s) s (replicate (padded_of (length s) - length s) 0) refl c.put_all.ensures (rw (← p) c.put_zeros.ensures)
