use Rattle.std.proofs.Common.{◌≡◌, ℕ, ◌+◌, ◌-◌, ◌≤◌, List, ◌++◌, rules, length, take, sym, ap, ◌∙◌, subst, length-take-le}
use Rattle.std.proofs.lemmas.List.{take-append-le}
use Rattle.std.proofs.Math.Seq.{take-append-add}
use Rattle.std.specs.Io.KnownBytes.{Consumes}
use Rattle.std.proofs.KnownBytes.{Consumes-trans}
use borrow.Rule.Slice.PartMut.{put_mid, post_of}
use Rattle.portcalls.proofs.input.fill.Goals as goal

-- what a part of the space has is behind what was there
take_behind : (a k n : ℕ) (xs ys : List ℕ) → a ≤ length xs → n ≤ length ys → take a xs ++ take n ys ≡ take (a + n) (put_mid a k xs ys)
take_behind a k n xs ys within fits =
    let whole = take-append-add (take a xs) (ys ++ post_of a k xs) n in
    sym (ap (λ m. take (m + n) (put_mid a k xs ys)) (sym (length-take-le a xs within)) ∙ whole ∙ ap (λ l. take a xs ++ l) (take-append-le n ys (post_of a k xs) fits))

-- a read puts behind what is there what it gives
pub loop-done-preserved : goal.loop-done-preserved
loop-done-preserved g c =
    let l = c.loop-done in
    let joined = take_behind l.done (length l.space - l.done) c.in-Ok.n l.space c.read.new.buf l.invariant.1 c.in-Ok.ensures.bound.0 in
    (search rules, search rules, subst (Consumes _ _) joined (Consumes-trans _ _ _ _ _ l.invariant.2 c.in-Ok.ensures.bytes.0))
