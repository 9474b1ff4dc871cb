-- What the answers of a set's reading tell, and the kinds' type numbers.
use Prim.Native.Nat.{ℕ, ◌+◌, ◌≤◌, ◌<◌, ◌-◌, ◌%◌}
use mathlib.Core.Path.{◌≡◌, refl, sym, ap, ap₂, ◌∙◌}
use mathlib.Core.Bool.{Bool, true, false, cond, not, ◌||◌}
use mathlib.Core.List.{List}
use native.Mathlib.Omega.{arith}
use lib.ListN.{length, get_or}
use lib.Dec.{eqb, ltb}
use borrow.Author.Tests.{ne_eqb, eqb-true, ltb-false, not-false}
use Rattle.base_octets.specs.Number.{be_at}
use Rattle.base_octets.specs.Octets.{Octets}
use Rattle.law_lists.proofs.Laws.{or-false, or-none, or-true, or_swap}
use Rattle.frame_rules.proofs.Laws.{extent-least, fits-room, fits_not}
use Rattle.frame_sets.specs.Kinds.{kind_at, type_of}
use Rattle.frame_sets.specs.Set.{len_at, bad_set, set_fields, set_answer, set_of, bad_head, head_of, bad_list}
use Rattle.frame_rules.specs.Rules.{is_list, allowed, extent_of, fits, unnumbered, allowed_others, list_len}
use Rattle.frame_places.specs.Once.{holds}
use Rattle.frame_places.specs.declared.Places.{Places}
use Rattle.frame_sets.specs.declared.Set.{Set}
use Rattle.std.specs.Prelude.{Some, None}
use Rattle.frame_sets.specs.declared.kinds.Kind.{Kind}

pub answer-bad : (t : Bool) (v : Set) → set_answer t v ≡ None → t ≡ true
answer-bad true v e = refl
answer-bad false v e = absurd (cc)

pub answer-good : (t : Bool) (v w : Set) → set_answer t v ≡ Some w → (t ≡ false) × (v ≡ w)
answer-good false v w e = (refl, cc)
answer-good true v w e = absurd (cc)

-- what the answer of `set_head` tells
pub head-bad : (s : List ℕ) (at stop : ℕ) (seen : Places) → head_of s at stop seen ≡ None → bad_head s at stop seen ≡ true
unfolding head_of
head-bad s at stop seen e = answer-bad (bad_head s at stop seen) (set_fields s at) e

pub head-good : (s : List ℕ) (at stop : ℕ) (seen : Places) (v : Set) → head_of s at stop seen ≡ Some v → (bad_head s at stop seen ≡ false) × (set_fields s at ≡ v)
unfolding head_of
head-good s at stop seen v e = answer-good (bad_head s at stop seen) (set_fields s at) v e

-- no set stands where not even a header fits
pub head_tight : (s : List ℕ) (at stop : ℕ) (seen : Places) → stop - at < 4 → head_of s at stop seen ≡ None
unfolding head_of bad_head
head_tight s at stop seen h =
    let t = get_or s at 0 in
    let n = len_at s at in
    let least = extent-least t n in
    rw (fits_not (eqb t 255) (extent_of t n) (stop - at) (omega arith), or-true (ltb (length s) stop))

pub head-room : (s : List ℕ) (at stop : ℕ) (seen : Places) → bad_head s at stop seen ≡ false → (stop ≤ length s) × (at + 4 ≤ stop)
unfolding bad_head
head-room s at stop seen e =
    let a = or-false (ltb (length s) stop) _ e in
    let x = extent_of (get_or s at 0) (len_at s at) in
    let least = extent-least (get_or s at 0) (len_at s at) in
    let b = not-false (fits (get_or s at 0) (len_at s at) (stop - at)) (or-false _ _ a.1).0 in
    let room : x ≤ stop - at = fits-room (eqb (get_or s at 0) 255) x (stop - at) b in
    (ltb-false (length s) stop a.0, omega arith)

-- the kind that is delivered has the type that stands in the frame
type-cond : (t : Bool) (x y : Kind) (n : ℕ) → (t ≡ true → type_of x ≡ n) → (t ≡ false → type_of y ≡ n) → type_of (cond t x y) ≡ n
type-cond true x y n h k = h refl
type-cond false x y n h k = k refl

pub type-kind : (s : List ℕ) (at t len : ℕ) → type_of (kind_at s at t len) ≡ t
unfolding kind_at
type-kind s at t len =
    type-cond (eqb t 1) _ _ t (λ e. sym (eqb-true t 1 e)) (λ _.
    type-cond (eqb t 2) _ _ t (λ e. sym (eqb-true t 2 e)) (λ _.
    type-cond (eqb t 3) _ _ t (λ e. type-cond (eqb len 0) _ _ t (λ _. sym (eqb-true t 3 e)) (λ _. sym (eqb-true t 3 e))) (λ _.
    type-cond (eqb t 4) _ _ t (λ e. type-cond (eqb len 0) _ _ t (λ _. sym (eqb-true t 4 e)) (λ _. sym (eqb-true t 4 e))) (λ _.
    type-cond (eqb t 255) _ _ t (λ e. sym (eqb-true t 255 e)) (λ _. refl)))))

-- what is delivered, in the frame's terms
pub set-fields : (s : List ℕ) (at : ℕ) (v : Set) → set_fields s at ≡ v → (v.place ≡ at) × (v.len ≡ len_at s at) × (type_of v.kind ≡ get_or s at 0)
unfolding set_fields
set-fields s at v e = (
  ap (λ (x : Set). x.place) (sym e),
  ap (λ (x : Set). x.len) (sym e),
  ap (λ (x : Set). type_of x.kind) (sym e) ∙ type-kind s at (get_or s at 0) (len_at s at),
)

-- a length has twelve bits
pub len-lt : (s : List ℕ) (at : ℕ) → Octets s → len_at s at < 4096
unfolding len_at
len-lt s at h = omega (arith, (h (at + 3)).fits)

-- ---- the code's way is the paper's: the rule on the lists' lengths after the others

lists-apart : (b x : Bool) (len : ℕ) → not (cond b (eqb (len % 16) 0) x) ≡ not (b || cond b (eqb (len % 16) 0) x) || not (eqb (cond b len 0 % 16) 0)
lists-apart true x len = refl
lists-apart false x len = sym (or-none (not x))

or-last : (a f b l w : Bool) → a || (f || ((b || l) || w)) ≡ (a || (f || (b || w))) || l
or-last true f b l w = refl
or-last false true b l w = refl
or-last false false true l w = refl
or-last false false false l w = or_swap l w

module _ (s : List ℕ) (at stop : ℕ) (seen : Places) where
  pub two-stages : bad_set s at stop seen ≡ bad_head s at stop seen || bad_list s at
  unfolding bad_set bad_head list_len
  two-stages =
      let t = get_or s at 0 in
      let len = len_at s at in
      rw (lists-apart (is_list t) _ len)
      (or-last (ltb (length s) stop) (not (fits t len (stop - at))) (not (allowed_others t len)) (bad_list s at) (unnumbered t len (be_at s (at + 4) 4) || holds seen t))

  pub bad-of-head : bad_head s at stop seen ≡ true → bad_set s at stop seen ≡ true
  bad-of-head e = rw (two-stages, e)

  pub bad-of-list : bad_head s at stop seen ≡ false → (list_len (get_or s at 0) (len_at s at) % 16 ≡ 0 → ⊥) → bad_set s at stop seen ≡ true
  bad-of-list e n = rw (two-stages, e, ne_eqb _ _ n)

  pub not-bad : bad_head s at stop seen ≡ false → list_len (get_or s at 0) (len_at s at) % 16 ≡ 0 → bad_set s at stop seen ≡ false
  not-bad e n = rw (two-stages, e, n)

  pub set-bad : head_of s at stop seen ≡ None → set_of s at stop seen ≡ None
  unfolding set_of
  set-bad e = rw (bad-of-head (head-bad s at stop seen e))

  module _ (v : Set) (e : head_of s at stop seen ≡ Some v) where
    listed : list_len (type_of v.kind) v.len ≡ list_len (get_or s at 0) (len_at s at)
    listed =
        let f = set-fields s at v (head-good s at stop seen v e).1 in
        ap₂ list_len f.2 f.1

    pub set-good : list_len (type_of v.kind) v.len % 16 ≡ 0 → set_of s at stop seen ≡ Some v
    unfolding set_of
    set-good n =
        let g = head-good s at stop seen v e in
        rw (not-bad g.0 (ap (λ (k : ℕ). k % 16) (sym listed) ∙ n), g.1)

    pub set-unlisted : (list_len (type_of v.kind) v.len % 16 ≡ 0 → ⊥) → set_of s at stop seen ≡ None
    unfolding set_of
    set-unlisted n =
        let g = head-good s at stop seen v e in
        rw (bad-of-list g.0 (λ z. n (ap (λ (k : ℕ). k % 16) listed ∙ z)))

  -- what the answer of `set_at` tells
  pub set-read : (v : Set) → set_of s at stop seen ≡ Some v → (bad_set s at stop seen ≡ false) × (set_fields s at ≡ v)
  unfolding set_of
  set-read v e = answer-good (bad_set s at stop seen) (set_fields s at) v e

  pub good-head : bad_set s at stop seen ≡ false → bad_head s at stop seen ≡ false
  good-head e = (or-false (bad_head s at stop seen) _ (sym two-stages ∙ e)).0

  -- a good set ends before the ICV
  module _ (v : Set) where
    pub head_ends : head_of s at stop seen ≡ Some v → at + extent_of (type_of v.kind) v.len ≤ stop
    unfolding bad_head
    head_ends e =
        let g = head-good s at stop seen v e in
        let f = set-fields s at v g.1 in
        let t = get_or s at 0 in
        let n = len_at s at in
        let least = extent-least t n in
        let b = not-false (fits t n (stop - at)) (or-false _ _ (or-false (ltb (length s) stop) _ g.0).1).0 in
        let room = fits-room (eqb t 255) (extent_of t n) (stop - at) b in
        rw (f.1, f.2) (omega arith)

    pub set_ends : set_of s at stop seen ≡ Some v → at + extent_of (type_of v.kind) v.len ≤ stop
    unfolding head_of
    set_ends e = let g = set-read v e in head_ends (rw (good-head g.0, g.1))

  -- "The key number (KN) is not zero in a type 4 body that isn't empty."
  pub good-numbered : bad_set s at stop seen ≡ false → get_or s at 0 ≡ 4 → eqb (len_at s at) 0 ≡ false → eqb (be_at s (at + 4) 4) 0 ≡ false
  unfolding bad_set
  good-numbered e t z =
      let a = (or-false (ltb (length s) stop) _ e).1 in
      let b = (or-false (not (allowed (get_or s at 0) (len_at s at))) _ (or-false (not (fits (get_or s at 0) (len_at s at) (stop - at))) _ a).1).1 in
      let c = (or-false (unnumbered (get_or s at 0) (len_at s at) (be_at s (at + 4) 4)) _ b).0 in
      rw (t, z) at c

pub ruleset set_steps = (set-bad, set-good, set-unlisted)
