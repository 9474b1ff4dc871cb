-- A frame's parts, stored one after the other.
use Prim.Native.Nat.{ℕ, ◌+◌}
use mathlib.Core.Path.{◌≡◌, ap, ◌∙◌}
use mathlib.Core.List.{List, ◌++◌, append_assoc}
use native.Mathlib.Omega.{arith}
use lib.ListN.{length, length-append, replicate}
use lib.Seq.{sets}
use Rattle.base_mi.specs.Entry.{entries_of}
use Rattle.base_octets.proofs.Stores.{sets-on}
use Rattle.frame_writer.specs.declared.Mkpdu.{Mkpdu}
use Rattle.frame_writer.specs.Frame.{header_octets, basic_octets, list_set, use_part, sak_part, body_octets, frame_of}
use Rattle.frame_writer.proofs.Laws.{length-header}

-- a frame's parts, each stored where the last one ended
pub stored : (l l1 l2 l3 l4 : List ℕ) (m : Mkpdu) (a b c : ℕ)
    → a ≡ 4 + length (basic_octets m.sender)
    → b ≡ a + length (list_set 1 (entries_of m.live))
    → c ≡ b + length (list_set 2 (entries_of m.potential))
    → l1 ≡ sets l 0 (header_octets (length (body_octets m)) ++ basic_octets m.sender)
    → l2 ≡ sets l1 a (list_set 1 (entries_of m.live))
    → l3 ≡ sets l2 b (list_set 2 (entries_of m.potential))
    → l4 ≡ sets l3 c (use_part m.usage ++ (sak_part m.sak ++ replicate 16 0))
    → l4 ≡ sets l 0 (frame_of m)
unfolding frame_of body_octets
stored l l1 l2 l3 l4 m a b c ea eb ec e1 e2 e3 e4 =
    let h = header_octets (length (body_octets m)) in
    let p = basic_octets m.sender in
    let q = list_set 1 (entries_of m.live) in
    let r = list_set 2 (entries_of m.potential) in
    let z : List ℕ = use_part m.usage ++ (sak_part m.sak ++ replicate 16 0) in
    let n : a ≡ 0 + length (h ++ p) = omega (arith, length-append h p, length-header (length (body_octets m))) in
    sets-on l l1 l4 0 a (h ++ p) (q ++ (r ++ z)) n e1
    (sets-on l1 l2 l4 a b q (r ++ z) eb e2
    (sets-on l2 l3 l4 b c r z ec e3 e4))
    ∙ ap (sets l 0) (append_assoc h p (q ++ (r ++ z)))
