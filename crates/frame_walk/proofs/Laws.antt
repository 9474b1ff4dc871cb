-- The walk, one set at a time.
use Prim.Native.Nat.{ℕ, zero, suc, ◌+◌, ◌-◌, ◌%◌, ◌≤◌, ◌<◌}
use mathlib.Core.Path.{◌≡◌, refl, sym}
use mathlib.Core.List.{List}
use mathlib.Core.Bool.{Bool, true, false, cond}
use native.Mathlib.Omega.{arith}
use lib.ListN.{get_or}
use lib.Dec.{leb}
use borrow.Author.Tests.{le-leb, lt-leb, leb-false}
use Rattle.frame_sets.specs.Set.{len_at, bad_set, head_of}
use Rattle.frame_places.specs.declared.Places.{Places}
use Rattle.frame_rules.specs.Rules.{extent_of, list_len}
use Rattle.frame_rules.proofs.Laws.{extent-least}
use Rattle.frame_places.specs.Once.{places_with}
use Rattle.frame_sets.specs.Kinds.{type_of}
use Rattle.frame_sets.specs.declared.Set.{Set}
use Rattle.frame_sets.proofs.Laws as rules
use Rattle.frame_sets.proofs.Laws.{head_ends}
use Rattle.frame_walk.specs.Walk.{next_at, places_after, walk_go, walk_from}
use Rattle.std.specs.Prelude.{Ok, Err, Some, None}

-- the same choice on both sides
same : {A : Type 0} (t : Bool) (z x y : A) → (t ≡ false → x ≡ y) → cond t z x ≡ cond t z y
same true z x y h = refl
same false z x y h = h refl

module _ (s : List ℕ) (stop : ℕ) where
  go-end : (f at : ℕ) (p : Places) → stop ≤ at → walk_go f s stop at p ≡ Ok p
  unfolding walk_go
  go-end zero at p h = refl
  go-end (suc f) at p h = rw (le-leb stop at h)

  -- any fuel that is enough gives the same
  fuel : (f g at : ℕ) (p : Places) → stop - at ≤ f → stop - at ≤ g → walk_go f s stop at p ≡ walk_go g s stop at p
  unfolding walk_go
  fuel zero g at p h k = sym (go-end g at p (omega arith))
  fuel (suc f) zero at p h k = go-end (suc f) at p (omega arith)
  fuel (suc f) (suc g) at p h k =
      same (leb stop at) _ _ _ (λ e. same (bad_set s at stop p) _ _ _ (λ _.
      let lt : at < stop = leb-false stop at e in
      let up = extent-least (get_or s at 0) (len_at s at) in
      fuel f g _ _ (omega arith) (omega arith)))

  pub walk_end : (at : ℕ) (p : Places) → stop ≤ at → walk_from s stop at p ≡ Ok p
  unfolding walk_from
  walk_end at p h = go-end (stop - at) at p h

  go-bad : (f at : ℕ) (p : Places) → 0 < f → at < stop → bad_set s at stop p ≡ true → walk_go f s stop at p ≡ Err at
  unfolding walk_go
  go-bad zero at p h lt e = absurd (omega arith)
  go-bad (suc f) at p h lt e = rw (lt-leb stop at lt, e)

  pub walk-bad : (at : ℕ) (p : Places) → at < stop → bad_set s at stop p ≡ true → walk_from s stop at p ≡ Err at
  unfolding walk_from
  walk-bad at p lt e = go-bad (stop - at) at p (omega arith) lt e

  go-next : (f at : ℕ) (p : Places) → stop - at ≤ f → at < stop → bad_set s at stop p ≡ false
      → walk_go f s stop at p ≡ walk_go (stop - next_at s at) s stop (next_at s at) (places_after s at p)
  unfolding walk_go
  go-next zero at p h lt e = absurd (omega arith)
  go-next (suc f) at p h lt e =
      let up = extent-least (get_or s at 0) (len_at s at) in
      rw (lt-leb stop at lt, e) (fuel f (stop - next_at s at) _ _ (omega arith) (omega arith))

  pub walk-next : (at : ℕ) (p : Places) → at < stop → bad_set s at stop p ≡ false
      → walk_from s stop at p ≡ walk_from s stop (next_at s at) (places_after s at p)
  unfolding walk_from
  walk-next at p lt e = go-next (stop - at) at p (omega arith) lt e

  -- the same by what reading the set but for its list answered, and what the list's length leaves
  module _ (at : ℕ) (p : Places) (lt : at < stop) where
    pub head_wrong : head_of s at stop p ≡ None → walk_from s stop at p ≡ Err at
    head_wrong e = walk-bad at p lt (rules.bad-of-head s at stop p (rules.head-bad s at stop p e))

    module _ (v : Set) (e : head_of s at stop p ≡ Some v) where
      abbrev length_left : ℕ
      length_left = list_len (type_of v.kind) v.len

      pub list_wrong : (length_left % 16 ≡ 0 → ⊥) → walk_from s stop at p ≡ Err at
      list_wrong u =
          let g = rules.head-good s at stop p v e in
          let f = rules.set-fields s at v g.1 in
          let n : list_len (get_or s at 0) (len_at s at) % 16 ≡ 0 → ⊥ = rw (← f.1, ← f.2) u in
          walk-bad at p lt (rules.bad-of-list s at stop p g.0 n)

      pub set_passed : length_left % 16 ≡ 0
          → walk_from s stop (at + extent_of (type_of v.kind) v.len) (places_with p (type_of v.kind) at v.len) ≡ walk_from s stop at p
      set_passed u =
          let g = rules.head-good s at stop p v e in
          let f = rules.set-fields s at v g.1 in
          let n : list_len (get_or s at 0) (len_at s at) % 16 ≡ 0 = rw (← f.1, ← f.2) u in
          rw (f.1, f.2) (sym (walk-next at p lt (rules.not-bad s at stop p g.0 n)))

pub ruleset walk_steps = (walk_end, head_wrong, list_wrong, set_passed, extent-least, head_ends)
