use Rattle.base_octets.proofs.Stores.{sets-two}
use Rattle.frame_writer.specs.Frame.{header_octets, basic_octets}
use Rattle.frame_writer.proofs.Laws.{length-header}
use Rattle.frame_writer.proofs.put_start.Goals as goal

pub returns : goal.returns
returns c =
    let a = c.args in (
      c.put_basic.ensures.0,
      sets-two _ _ _ 0 4 (header_octets a.body) (basic_octets a.x.now) (length-header a.body) c.put_header.ensures c.put_basic.ensures.1,
    )
