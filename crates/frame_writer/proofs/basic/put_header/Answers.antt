use Prim.Native.Nat.{ℕ}
use mathlib.Core.List.{List}
use mathlib.Core.Path.{ap, ◌∙◌}
use lib.Seq.{sets}
use lib.ListN.{set}
use Rattle.base_octets.specs.Number.{be_of}
use Rattle.frame_writer.specs.Frame.{header_octets}
use Rattle.frame_writer.proofs.basic.put_header.Goals as goal

pub returns : goal.returns
unfolding header_octets
returns c =
    c.put_u16.ensures
    ∙ ap (λ (z : List ℕ). sets z 2 (be_of 2 c.args.body)) (c.put_octet-2.ensures ∙ ap (λ (z : List ℕ). set z 1 5) c.put_octet.ensures)
