use Rattle.std.proofs.Common.{◌≡◌, ◌+◌, ◌*◌, ◌<◌, ◌≤◌, length, ltb-true, ltb-false, lt-ltb, le-ltb, sym, ◌∙◌, rules}
use Rattle.base_facts.proofs.Laws.{check-failed, check-passed}
use Rattle.base_octets.proofs.Laws.{sets-append}
use Rattle.base_octets.proofs.Stores.{sets-whole}
use Rattle.base_octets.specs.Run.{written}
use Rattle.image_own.proofs.Lengths.{length-own}
use Rattle.image.proofs.Laws.{length-contents, length-peers, length-slot, image-is, length-image}
use Rattle.image.specs.Image.{image_of}
use Rattle.image.proofs.write.Goals.{After-key_size-2}
use Rattle.image.proofs.write.Goals as goal

-- the length that was computed is the image's
sized : (c : After-key_size-2) → 144 + length c.held.result.now * 44 + c.key_size.result + c.key_size-2.result ≡ length (image_of c.args.p)
sized c = rw (length-image c.args.p (search rules) (search rules), c.held.ensures, c.key_size.ensures.0, c.key_size-2.ensures.0)

pub returns-in_default : goal.returns-in_default
unfolding written
returns-in_default c =
    let short : length c.args.out.now < length (image_of c.args.p) = rw (← sized (goal.at.returns-in_default c).After-key_size-2) (ltb-true _ _ (check-failed _ (sym c.fail_if.ensures ∙ c.in_default.is))) in
    (rw (lt-ltb _ _ short), rw (lt-ltb _ _ short))

pub returns : goal.returns
unfolding written
returns c =
    let p = c.args.p in
    let ckn : length p.ckn ≡ 32 = search rules in
    let wrapped : length p.wrapped ≡ 24 = search rules in
    let e = sized (goal.at.returns c).After-key_size-2 in
    let room : length (image_of p) ≤ length c.args.out.now = rw (← e) (ltb-false _ _ (check-passed _ (sym c.fail_if.ensures ∙ c.in-Some.is))) in
    (rw (le-ltb _ _ room) (cc), rw (le-ltb _ _ room, ← sets-whole (image_of p) c.args.out.now room, image-is p ckn wrapped) (simp (sets-append, length-contents, length-own p ckn wrapped, length-peers, length-slot) (search rules)))
