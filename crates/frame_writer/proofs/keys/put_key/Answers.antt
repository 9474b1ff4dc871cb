use Rattle.base_octets.specs.Number.{be_of}
use Rattle.base_octets.proofs.Laws.{length-be_of}
use Rattle.base_octets.proofs.Stores.{sets-three}
use Rattle.base_mi.specs.Mi.{mi_octets}
use Rattle.base_mi.proofs.Laws.{length-mi}
use Rattle.frame_writer.specs.Frame.{use_octets}
use Rattle.frame_writer.proofs.keys.put_key.Goals as goal

pub returns : goal.returns
unfolding use_octets
returns c =
    let k = c.args.k in
    sets-three _ _ _ _ c.args.at 12 4 (mi_octets k.mi) (be_of 4 k.kn) (be_of 4 k.pn) (length-mi k.mi) (length-be_of 4 k.kn)
    c.put_mi.ensures
    c.put_u32.ensures
    c.put_u32-2.ensures
