use Rattle.std.proofs.Common.{◌≡◌, ℕ, ◌-◌, ◌<◌, rules, arith, Bool, true, false, List, get_or, sym, subst, ◌∙◌}
use Rattle.std.specs.Prelude.{Option, Some, None, cond, leb, refl}
use borrow.Author.Tests.{leb-false}
use Rattle.base_facts.specs.declared.Refusal.{Refusal}
use Rattle.frame_rules.proofs.Laws.{extent-least}
use Rattle.frame_sets.specs.Set.{bad_set, set_fields, len_at}
use Rattle.frame_sets.specs.declared.Set.{Set}
use Rattle.frame_reader.specs.Reader.{step_by, step_of, stays, passed_of}
use Rattle.frame_reader.specs.declared.step.Position.{Position}
use Rattle.frame_reader.specs.declared.step.Stepped.{Stepped}
use Rattle.frame_reader.specs.declared.step.Next.TheVariants.{Set as Handed, End, Bad}
use Rattle.portcalls.proofs.listing.SetsDisplay.fmt.Goals as goal

-- what is left between a position and the ICV
abbrev left : Position → ℕ
left p = p.stop - p.at

module _ (s : List ℕ) (p : Position) (v : Set) where
  -- where a set is handed out, less is left behind it
  handed : (t u : Bool) → leb p.stop p.at ≡ t → (x : Stepped)
      → x ≡ cond t (stays End p) (cond u (stays (Bad p.at) p) (record { next = Handed (set_fields s p.at); after = passed_of s p }))
      → x.next ≡ Handed v → left x.after < left p
  handed true u b x e h = search rules
  handed false true b x e h = search rules
  handed false false b x e h =
      let least = extent-least (get_or s p.at 0) (len_at s p.at) in
      let before = leb-false p.stop p.at b in
      subst (λ y. left y.after < left p) (sym e) (omega (arith, least, before))

  less : (o : Option Refusal) → (step_by o s p).next ≡ Handed v → left (step_by o s p).after < left p
  less (Some why) h = search rules
  less None h = handed (leb p.stop p.at) (bad_set s p.at p.stop p.seen) refl (step_by None s p) refl h

pub loop-set-smaller : goal.loop-set-smaller
unfolding step_of
loop-set-smaller g c =
    let r = c.loop-set.reader in
    subst (λ x. left x.position < left r.position) (sym c.next.ensures.1)
    (less r.frame.now r.position c.in-Set.set r.position.refused (sym c.next.ensures.0 ∙ c.in-Set.is))
