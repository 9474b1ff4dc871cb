use Rattle.std.proofs.Common.{arith, ap, length, take, ◌≡◌, ◌+◌}
use Rattle.base_octets.proofs.Stores.{sets-two}
use Rattle.frame_writer.proofs.Laws.{length-basic, length-fixed}
use Rattle.frame_writer.specs.Frame.{basic_octets, fixed_octets, ckn_octets, ckn_of}
use Rattle.frame_writer.proofs.basic.put_basic.Goals as goal

pub returns : goal.returns
unfolding basic_octets
returns c =
    let x = c.args.x.now in
    let y = take c.min.result x.ckn in
    let e : y ≡ ckn_of x = ap (λ k. take k x.ckn) c.min.ensures in
    let n : 36 + c.next_multiple_of.result ≡ 4 + length (basic_octets x) = omega (arith, length-basic x, ap length e, c.next_multiple_of.ensures.value) in
    (n, rw (← e) (sets-two _ _ _ 4 32 (fixed_octets x (length y)) (ckn_octets y) (length-fixed x (length y)) c.put_fixed.ensures c.put_ckn.ensures))
