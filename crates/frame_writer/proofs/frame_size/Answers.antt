use Rattle.std.proofs.Common.{arith}
use Rattle.frame_writer.specs.Frame.{frame_size}
use Rattle.frame_writer.proofs.frame_size.Goals as goal

pub returns : goal.returns
unfolding frame_size
returns c = omega (arith, c.next_multiple_of-basic.ensures.value, c.list_size.ensures, c.list_size-2.ensures, c.size_if.ensures, c.size_if-2.ensures)
