-- What stands at a position, case by case.
use Prim.Native.Nat.{ℕ, ◌+◌, ◌≤◌, ◌<◌}
use mathlib.Core.Path.{◌≡◌, sym, ◌∙◌}
use mathlib.Core.Bool.{true, false}
use mathlib.Core.List.{List}
use borrow.Author.Tests.{le-leb, lt-leb}
use Rattle.frame_sets.specs.Kinds.{type_of}
use Rattle.frame_places.specs.Once.{places_with}
use Rattle.frame_sets.specs.Set.{bad_set, set_fields, set_of}
use Rattle.frame_rules.specs.Rules.{extent_of}
use Rattle.frame_sets.specs.declared.Set.{Set}
use Rattle.std.specs.Prelude.{Some, None}
use Rattle.base_facts.specs.declared.Refusal.{Refusal}
use Rattle.frame_sets.proofs.Laws as rules
use Rattle.frame_sets.proofs.Laws.{set_ends}
use Rattle.frame_walk.specs.Walk.{next_at, places_after}
use Rattle.frame_reader.specs.Reader.{passed_of, stays, step_of}
use Rattle.frame_reader.specs.declared.step.Position.{Position}
use Rattle.frame_reader.specs.declared.step.Next.TheVariants.{Set as Handed, End, Bad, Refused}

module _ (s : List ℕ) (p : Position) where
  pub step-refused : (why : Refusal) → p.refused ≡ Some why → step_of s p ≡ stays (Refused why) p
  unfolding step_of
  step-refused why e = rw e

  module _ (z : p.refused ≡ None) where
    pub step_end : p.stop ≤ p.at → step_of s p ≡ stays End p
    unfolding step_of
    step_end h = rw (z, le-leb p.stop p.at h)

    pub step-bad : p.at < p.stop → bad_set s p.at p.stop p.seen ≡ true → step_of s p ≡ stays (Bad p.at) p
    unfolding step_of
    step-bad lt e = rw (z, lt-leb p.stop p.at lt, e)

    pub step_set : p.at < p.stop → bad_set s p.at p.stop p.seen ≡ false → step_of s p ≡ record { next = Handed (set_fields s p.at); after = passed_of s p }
    unfolding step_of
    step_set lt e = rw (z, lt-leb p.stop p.at lt, e)

    -- the same by what reading the set answered
    pub read-bad : p.at < p.stop → set_of s p.at p.stop p.seen ≡ None → step_of s p ≡ stays (Bad p.at) p
    unfolding set_of
    read-bad lt e = step-bad lt (rules.answer-bad (bad_set s p.at p.stop p.seen) (set_fields s p.at) e)

    pub read-good : (v : Set) → p.at < p.stop → set_of s p.at p.stop p.seen ≡ Some v
        → step_of s p ≡ record { next = Handed v; after = record { refused = p.refused; at = p.at + extent_of (type_of v.kind) v.len; stop = p.stop; seen = places_with p.seen (type_of v.kind) p.at v.len } }
    read-good v lt e =
        let g = rules.set-read s p.at p.stop p.seen v e in
        let f = rules.set-fields s p.at v g.1 in
        let to : next_at s p.at ≡ p.at + extent_of (type_of v.kind) v.len = rw (f.1, f.2) in
        let had : places_after s p.at p.seen ≡ places_with p.seen (type_of v.kind) p.at v.len = rw (f.1, f.2) in
        step_set lt g.0 ∙ (λ i. record { next = Handed (g.1 i); after = record { refused = sym z i; at = to i; stop = p.stop; seen = had i } })

pub ruleset read_steps = (read-bad, read-good, set_ends)
