use Rattle.std.proofs.Common.{arith, replicate, ◌++◌}
use Rattle.base_octets.proofs.Stores.{sets-on}
use Rattle.frame_writer.specs.Frame.{use_part, sak_part}
use Rattle.frame_writer.proofs.Laws.{use-le}
use Rattle.frame_writer.proofs.put_end.Goals as goal

pub put_sak-e-requires : goal.put_sak-e-requires
put_sak-e-requires c = omega (arith, c.put_use-d.ensures.0, use-le c.args.usage)

pub returns : goal.returns
returns c =
    let a = c.args in
    let s = sak_part a.sak in
    sets-on _ _ _ a.at _ (use_part a.usage) (s ++ replicate 16 0) c.put_use-d.ensures.0 c.put_use-d.ensures.1
    (sets-on _ _ _ _ _ s (replicate 16 0) c.put_sak-e.ensures.0 c.put_sak-e.ensures.1 c.put_zeros.ensures)
