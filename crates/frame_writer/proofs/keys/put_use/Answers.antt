use Rattle.std.proofs.Common.{ℕ, ◌≡◌, refl, ap, ap₂, ◌∙◌, arith}
use Rattle.std.proofs.lemmas.List.Edits.{sets}
use Rattle.base_octets.proofs.Stores.{sets-three}
use Rattle.base_packed.specs.Used.{used_octet}
use Rattle.base_packed.specs.declared.used.KeyFlags.{KeyFlags}
use Rattle.frame_writer.specs.Frame.{use_flags, use_octets, set_header, use_set}
use Rattle.frame_writer.proofs.Laws.{length-key, length-use}
use Rattle.frame_writer.proofs.keys.put_use.Goals as goal

pub returns : goal.returns
unfolding use_set
returns c =
    let u = c.in-Some.u in
    let f = used_octet (record { latest = use_flags u.latest; old = use_flags u.old }) in
    let e : c.from-flags.result ≡ f = c.from-flags.ensures ∙ ap₂ (λ (x y : KeyFlags). used_octet (record { latest = x; old = y })) c.key_flags.ensures c.key_flags-2.ensures in
    rw c.in-Some.is (
      omega (arith, length-use u),
      sets-three c.args.out.now _ _ _ c.args.at 4 20 (set_header 3 f 40) (use_octets u.latest) (use_octets u.old) refl (length-key u.latest)
          (c.put_set_header.ensures ∙ ap (λ (x : ℕ). sets c.args.out.now c.args.at (set_header 3 x 40)) e)
          c.put_key.ensures
          c.put_key-2.ensures,
    )
