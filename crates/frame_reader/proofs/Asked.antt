-- Asking a reader until there is none gives just the sets that the walk goes over, in order.
use Prim.Native.Nat.{ℕ, zero, suc, ◌+◌, ◌-◌, ◌≤◌}
use mathlib.Core.Path.{◌≡◌, refl, sym, ap, ap₂, ◌∙◌}
use mathlib.Core.List as core
use mathlib.Core.List.{[], ◌∷◌, map}
use mathlib.Core.Bool.{Bool, true, false, cond}
use native.Mathlib.Omega.{arith}
use lib.ListN.{length, get_or}
use lib.Dec.{leb}
use borrow.Author.Tests.{le-leb, leb-true, leb-false}
use denote.Ref.{Bor}
use Rattle.frame.specs.Basic.{basic_of}
use Rattle.frame.specs.declared.Basic.{Basic}
use Rattle.base_facts.specs.declared.Refusal.{Refusal}
use Rattle.std.specs.Prelude.{Result, Ok, Err, None}
use Rattle.frame_sets.specs.Kinds.{type_of}
use Rattle.frame_places.specs.Once.{no_places, places_with}
use Rattle.frame_sets.specs.Set.{len_at, bad_set, set_fields}
use Rattle.frame_rules.specs.Rules.{extent_of}
use Rattle.frame_places.specs.declared.Places.{Places}
use Rattle.frame_sets.specs.declared.Set.{Set}
use Rattle.frame_sets.proofs.Laws.{type-kind}
use Rattle.frame_rules.proofs.Laws.{extent-least}
use Rattle.frame_walk.specs.Walk.{next_at, places_after, walk_go, walk_from, walk_of}
use Rattle.frame_reader.specs.Reader.{start_after, start_of, stays, step_of, reader_over, moved}
use Rattle.frame_reader.specs.Asked.{sets_go, sets_of, walked_by, sets_in, frame_sets, none_of, none_in, frame_none, answer, handed_by, until_none}
use Rattle.frame_reader.specs.declared.step.Position.{Position}
use Rattle.frame_reader.specs.declared.step.Stepped.{Stepped}
use Rattle.frame_reader.specs.declared.step.Next.{Next}
use Rattle.frame_reader.specs.declared.step.Next.TheVariants.{Set as Handed, End, Bad, Refused}
use Rattle.frame_reader.specs.declared.Reader.{Reader}
use Rattle.frame_reader.proofs.Laws.{step-refused, step_end, step-bad, step_set}

-- ---- the list of sets, and the walk's answer

module _ (s : core.List ℕ) (stop : ℕ) where
  module _ (at : ℕ) (p : Places) where
    type_at : type_of (set_fields s at).kind ≡ get_or s at 0
    unfolding set_fields
    type_at = type-kind s at (get_or s at 0) (len_at s at)

    -- a set's own fields tell where it ends, and the places with it
    next_of : (set_fields s at).place + extent_of (type_of (set_fields s at).kind) (set_fields s at).len ≡ next_at s at
    unfolding set_fields
    next_of = ap (λ (t : ℕ). at + extent_of t (len_at s at)) type_at

    places_of : places_with p (type_of (set_fields s at).kind) (set_fields s at).place (set_fields s at).len ≡ places_after s at p
    unfolding set_fields
    places_of = ap (λ (t : ℕ). places_with p t at (len_at s at)) type_at

    -- one set more, where the rest of the walk is w over the sets vs
    one_more : (t u : Bool) (w : Result Places ℕ) (vs : core.List Set) → leb stop at ≡ t → w ≡ walked_by stop (next_at s at) (places_after s at p) vs
        → cond t (Ok p) (cond u (Err at) w) ≡ walked_by stop at p (cond t [] (cond u [] (set_fields s at ∷ vs)))
    one_more true u w vs e h = rw e
    one_more false true w vs e h = rw e
    one_more false false w vs e h = h ∙ sym (ap₂ (λ (n : ℕ) (q : Places). walked_by stop n q vs) next_of places_of)

  go-walked : (f at : ℕ) (p : Places) → stop - at ≤ f → walk_go f s stop at p ≡ walked_by stop at p (sets_go f s stop at p)
  unfolding walk_go sets_go
  go-walked zero at p h = let le : stop ≤ at = omega arith in rw (le-leb stop at le)
  go-walked (suc f) at p h =
      let up = extent-least (get_or s at 0) (len_at s at) in
      one_more at p (leb stop at) (bad_set s at stop p) _ _ refl (go-walked f (next_at s at) (places_after s at p) (omega arith))

  -- The walk comes to the end with the places of just these sets, or stops at the place where they end.
  pub walk_of-sets : (at : ℕ) → walk_of s at stop ≡ walked_by stop at no_places (sets_of s at stop)
  unfolding walk_of walk_from
  walk_of-sets at = go-walked (stop - at) at no_places (omega arith)

-- ---- the answers

module _ (f : Bor (core.List ℕ)) where
  abbrev s : core.List ℕ
  s = f.now

  abbrev reader : Position → Reader
  reader p = record { frame = f; position = p }

  -- where nothing is passed, the answer stays
  stays_put : (n : ℕ) (x : Next) (p : Position) → step_of s p ≡ stays x p → answer n (reader p) ≡ x
  stays_put zero x p e = ap (λ (y : Stepped). y.next) e
  stays_put (suc n) x p e = ap (λ (y : Stepped). answer n (reader y.after)) e ∙ stays_put n x p e

  module _ (stop : ℕ) where
    abbrev to : ℕ → Places → Position
    to at p = record { refused = None; at = at; stop = stop; seen = p }

    -- the answers from `at` on, where those past its set are of the sets vs and then of the walk's answer w
    one_answer : (t u : Bool) (n at : ℕ) (p : Places) (w : Result Places ℕ) (vs : core.List Set) → leb stop at ≡ t → bad_set s at stop p ≡ u
        → ((m : ℕ) → answer m (reader (to (next_at s at) (places_after s at p))) ≡ get_or (map Handed vs) m (none_of w))
        → answer n (reader (to at p)) ≡ get_or (map Handed (cond t [] (cond u [] (set_fields s at ∷ vs)))) n (none_of (cond t (Ok p) (cond u (Err at) w)))
    one_answer true u n at p w vs e b h = stays_put n End (to at p) (step_end s (to at p) refl (leb-true stop at e))
    one_answer false true n at p w vs e b h = stays_put n (Bad at) (to at p) (step-bad s (to at p) refl (leb-false stop at e) b)
    one_answer false false zero at p w vs e b h = ap (λ (y : Stepped). y.next) (step_set s (to at p) refl (leb-false stop at e) b)
    one_answer false false (suc n) at p w vs e b h = ap (λ (y : Stepped). answer n (reader y.after)) (step_set s (to at p) refl (leb-false stop at e) b) ∙ h n

    go-answers : (k n at : ℕ) (p : Places) → stop - at ≤ k → answer n (reader (to at p)) ≡ get_or (map Handed (sets_go k s stop at p)) n (none_of (walk_go k s stop at p))
    unfolding walk_go sets_go
    go-answers zero n at p h = stays_put n End (to at p) (step_end s (to at p) refl (omega arith))
    go-answers (suc k) n at p h =
        let up = extent-least (get_or s at 0) (len_at s at) in
        one_answer (leb stop at) (bad_set s at stop p) n at p _ _ refl refl (λ m. go-answers k m (next_at s at) (places_after s at p) (omega arith))

  by-basic : (b : Result Basic Refusal) (n : ℕ) → basic_of s ≡ b → answer n (reader (start_after b)) ≡ get_or (map Handed (sets_in s b)) n (none_in s b)
  unfolding walk_of walk_from
  by-basic (Ok b) n e = go-answers b.stop (b.stop - b.next) n b.next no_places (omega arith)
  by-basic (Err k) n e = stays_put n (Refused k) (start_after (Err k)) (step-refused s (start_after (Err k)) k refl)

  -- "hands out the further sets as the walk does, none where facts 2 to 5 hold": asked n times before, a reader over a frame
  -- answers with the n-th of the frame's sets; and when there is none left, with why, at that asking and at each one after it.
  pub asked : (n : ℕ) → answer n (reader_over f) ≡ get_or (map Handed (frame_sets s)) n (frame_none s)
  unfolding start_of
  asked n = by-basic (basic_of s) n refl

-- ---- asking until there is none

none-walked : (w : Result Places ℕ) (vs : core.List Set) → handed_by (none_of w) vs ≡ []
none-walked (Ok p) vs = refl
none-walked (Err at) vs = refl

none_is : (s : core.List ℕ) (b : Result Basic Refusal) (vs : core.List Set) → handed_by (none_in s b) vs ≡ []
none_is s (Ok b) vs = none-walked (walk_of s b.next b.stop) vs
none_is s (Err n) vs = refl

until : (n : ℕ) (r : Reader) (vs : core.List Set) (x : Next) → ((ws : core.List Set) → handed_by x ws ≡ []) → ((m : ℕ) → answer m r ≡ get_or (map Handed vs) m x) → length vs ≤ n → until_none n r ≡ vs
unfolding until_none
until zero r [] x z h le = refl
until zero r (v ∷ vs) x z h le = absurd (omega arith)
until (suc n) r [] x z h le = ap (λ (y : Next). handed_by y (until_none n (moved r))) (h 0) ∙ z (until_none n (moved r))
until (suc n) r (v ∷ vs) x z h le = ap (λ (y : Next). handed_by y (until_none n (moved r))) (h 0) ∙ ap (λ (ws : core.List Set). v ∷ ws) (until n (moved r) vs x z (λ m. h (suc m)) (omega arith))

-- Asked until there is none, a reader over a frame hands out just the sets that the walk goes over, in order.
pub asked-until-none : (f : Bor (core.List ℕ)) (n : ℕ) → length (frame_sets f.now) ≤ n → until_none n (reader_over f) ≡ frame_sets f.now
asked-until-none f n le = until n (reader_over f) (frame_sets f.now) (frame_none f.now) (none_is f.now (basic_of f.now)) (asked f) le
