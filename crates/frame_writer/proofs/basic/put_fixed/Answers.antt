use Prim.Native.Nat.{◌+◌, ℕ}
use mathlib.Core.List.{List, ◌++◌}
use mathlib.Core.Path.{◌≡◌, ap, ap₂, ◌∙◌}
use lib.ListN.{set}
use lib.Seq.{sets}
use Rattle.base_facts.specs.Numbers.{agility}
use Rattle.base_packed.specs.Basic.{octet_of}
use Rattle.base_octets.specs.Number.{be_of}
use Rattle.base_mi.specs.Mi.{mi_octets}
use Rattle.base_octets.proofs.Laws.{length-be_of}
use Rattle.base_mi.proofs.Laws.{length-mi}
use Rattle.base_octets.proofs.Stores.{sets-two}
use Rattle.frame_writer.specs.Frame.{sender_flags, fixed_octets}
use Rattle.frame_writer.proofs.basic.put_fixed.Goals as goal

pub returns : goal.returns
unfolding fixed_octets
returns c =
    let a = c.args in
    let x = a.x.now in
    let ag : List ℕ = be_of 4 agility in
    let octets : c.put_octet-4.new.out ≡ set (set (set (set a.out.now 4 1) 5 x.priority) 6 (octet_of (sender_flags x))) 7 (28 + a.n) =
    c.put_octet-4.ensures
    ∙ ap (λ (z : List ℕ). set z 7 (28 + a.n)) (
    c.put_octet-3.ensures
    ∙ ap₂ (λ (z : List ℕ) (k : ℕ). set z 6 k) (c.put_octet-2.ensures ∙ ap (λ (z : List ℕ). set z 5 x.priority) c.put_octet.ensures) c.from.ensures) in
    let numbers =
    sets-two _ _ _ 8 8 (be_of 8 x.sci) (mi_octets x.mi ++ (be_of 4 x.mn ++ ag)) (length-be_of 8 x.sci) c.put_u64.ensures
    (sets-two _ _ _ 16 12 (mi_octets x.mi) (be_of 4 x.mn ++ ag) (length-mi x.mi) c.put_mi.ensures
    (sets-two _ _ _ 28 4 (be_of 4 x.mn) ag (length-be_of 4 x.mn) c.put_u32.ensures c.put_u32-2.ensures)) in
    numbers ∙ ap (λ (z : List ℕ). sets z 8 (be_of 8 x.sci ++ (mi_octets x.mi ++ (be_of 4 x.mn ++ ag)))) octets
