use Rattle.std.proofs.Common.{ℕ, ◌≡◌, refl, ap, ◌∙◌, arith, rules, length}
use Rattle.std.proofs.lemmas.List.Edits.{sets}
use Rattle.base_octets.specs.Number.{be_of}
use Rattle.base_octets.proofs.Laws.{length-be_of}
use Rattle.base_octets.proofs.Stores.{sets-three}
use Rattle.base_packed.specs.Sak.{sak_octet}
use Rattle.frame_writer.specs.Frame.{set_header, sak_set}
use Rattle.frame_writer.proofs.Laws.{length-sak}
use Rattle.frame_writer.proofs.keys.put_sak.Goals as goal

pub returns : goal.returns
unfolding sak_set
returns c =
    let k = c.in-Some.k in
    let f = sak_octet (record { an = k.an; confidentiality = k.confidentiality }) in
    let w : length k.wrapped ≡ 24 = search rules in
    rw c.in-Some.is (
      omega (arith, length-sak k w),
      sets-three c.args.out.now _ _ _ c.args.at 4 4 (set_header 4 f 28) (be_of 4 k.kn) k.wrapped refl (length-be_of 4 k.kn)
          (c.put_set_header.ensures ∙ ap (λ (x : ℕ). sets c.args.out.now c.args.at (set_header 4 x 28)) c.from-flags.ensures)
          c.put_u32.ensures
          c.put_all.ensures,
    )
