-- Laws of tests, and of lists: what a loop over the entries has done and has left, what a test picks, and room past a list.
use Rattle.std.specs.Prelude.{ℕ, suc, ◌+◌, ◌-◌, ◌≤◌, ◌<◌, min, ◌≡◌, refl, Bool, true, false, ◌&&◌, ◌||◌, length, take, drop, get_or, set, replicate}
use Rattle.std.proofs.Common.{ap, sym, ◌∙◌, ⊎_elim, add-one, arith, length-append, length-take, drop_of_length-le, take-suc, drop-cons, get_or-take, length-take-le, take_at}
use mathlib.Core.List.Memᴰ
use mathlib.Core.List.{List, [], ◌∷◌, ◌++◌, map, append_assoc, append-nil, Memᴰ}
use Rattle.std.proofs.lemmas.List.{length-replicate}
use Rattle.std.proofs.Math.Seq.{set-append_seam}
use Rattle.law_lists.specs.Lists.{those, every, pad}

-- a proof by the two cases of a test
pub by_cases {ℓ} : {C : Type ℓ} (b : Bool) → (b ≡ true → C) → (b ≡ false → C) → C
by_cases true t f = t refl
by_cases false t f = f refl

-- from two different constructors that are equal `cc` proves this
pub never {ℓ} : {C : Type ℓ} → ◌≡◌ {A = ℕ} 0 1 → C
never e = absurd (omega arith)

-- no test is both
pub clash {ℓ} : {C : Type ℓ} → false ≡ true → C
clash e = never (cc)

pub both : (a b : Bool) → a ≡ true → b ≡ true → (a && b) ≡ true
both a b p q = rw (p, q)

pub first-of : (a b : Bool) → (a && b) ≡ true → a ≡ true
first-of true b e = refl
first-of false b e = e

pub second-of : (a b : Bool) → (a && b) ≡ true → b ≡ true
second-of true b e = e
second-of false b e = clash e

pub or-false : (a b : Bool) → a || b ≡ false → (a ≡ false) × (b ≡ false)
or-false false b e = (refl, e)
or-false true b e = clash (sym e)

pub or-none : (a : Bool) → a || false ≡ a
or-none true = refl
or-none false = refl

pub or-true : (a : Bool) → a || true ≡ true
or-true true = refl
or-true false = refl

pub or-with : (a b c : Bool) → a || (b || c) ≡ (a || b) || c
or-with true b c = refl
or-with false b c = refl

pub or_swap : (a b : Bool) → a || b ≡ b || a
or_swap true b = sym (or-true b)
or_swap false b = sym (or-none b)

module _ {ℓ} {A : Type ℓ} where
  -- what a loop that goes through the first n has left
  drop-next : (n i : ℕ) (l : List A) (d : A) → i < n → n ≤ length l → drop i (take n l) ≡ get_or l i d ∷ drop (i + 1) (take n l)
  drop-next n i l d h m =
      let hl : i < length (take n l) = omega (arith, length-take-le n l m) in
      rw (add-one, drop-cons (take n l) i d hl, get_or-take n l i d h)

  -- the same of the first `count` of 16 slots, a count above 16 taken as 16
  pub loop-next : (n i : ℕ) (l : List A) (count : ℕ) (d : A) → length l ≡ 16 → n ≡ min count 16 → i < n → drop i (take n l) ≡ get_or l i d ∷ drop (i + 1) (take n l)
  loop-next n i l count d whole e h = drop-next n i l d h (omega arith)

  pub drop-end : (n i : ℕ) (l : List A) → n ≤ i → drop i (take n l) ≡ []
  drop-end n i l h = drop_of_length-le (take n l) {i = i} (omega (arith, length-take n l))

-- ---- those that a test picks

module _ {A : Type 0} where
  module _ (f : A → Bool) where
    pub those-append : (l m : List A) → those f (l ++ m) ≡ those f l ++ those f m
    those-append [] m = refl
    those-append (x ∷ l) m = by_cases (f x) (λ e. rw (e, those-append l m)) (λ e. rw (e, those-append l m))

    pub length-those : (l : List A) → length (those f l) ≤ length l
    length-those [] = omega arith
    length-those (x ∷ l) = by_cases (f x) (λ e. rw e (omega (arith, length-those l))) (λ e. rw e (omega (arith, length-those l)))

    -- one turn of a loop that picks them
    pub those-kept : (l : List A) (i : ℕ) (d : A) → i < length l → f (get_or l i d) ≡ true → those f (take (i + 1) l) ≡ those f (take i l) ++ (get_or l i d ∷ [])
    those-kept l i d h e = rw (add-one, take-suc l i d h, those-append, e)

    pub those-gone : (l : List A) (i : ℕ) (d : A) → i < length l → f (get_or l i d) ≡ false → those f (take (i + 1) l) ≡ those f (take i l)
    those-gone l i d h e = rw (add-one, take-suc l i d h, those-append, e, append-nil)

    pub mem-those : {x : A} (l : List A) → Memᴰ x (those f l) → Memᴰ x l × (f x ≡ true)
    mem-those [] m = absurd (Memᴰ.not-nil m)
    mem-those (y ∷ l) m =
        by_cases (f y)
        (λ e. ⊎_elim
        (λ s. (Memᴰ.head s, ap f s ∙ e))
        (λ m. let r = mem-those l m in (Memᴰ.tail r.0, r.1))
        (Memᴰ.cases_cons (rw e at m)))
        (λ e. let r = mem-those l (rw e at m) in (Memᴰ.tail r.0, r.1))

    pub those-mem : {x : A} (l : List A) → Memᴰ x l → f x ≡ true → Memᴰ x (those f l)
    those-mem [] m t = absurd (Memᴰ.not-nil m)
    those-mem (y ∷ l) m t =
        ⊎_elim
        (λ s. let e : f y ≡ true = ap f (sym s) ∙ t in rw e (Memᴰ.head s))
        (λ m. by_cases (f y) (λ e. rw e (Memᴰ.tail (those-mem l m t))) (λ e. rw e (those-mem l m t)))
        (Memᴰ.cases_cons m)

    pub every-mem : {x : A} (l : List A) → every f l ≡ true → Memᴰ x l → f x ≡ true
    every-mem [] e m = absurd (Memᴰ.not-nil m)
    every-mem (y ∷ l) e m =
        ⊎_elim
        (λ s. ap f s ∙ first-of (f y) (every f l) e)
        (λ m. every-mem l (second-of (f y) (every f l) e) m)
        (Memᴰ.cases_cons m)

-- ---- room past a list

module _ {ℓ} {A : Type ℓ} where
  pub length-pad : (n : ℕ) (d : A) (l : List A) → length l ≤ n → length (pad n d l) ≡ n
  length-pad n d l h = length-append l (replicate (n - length l) d) ∙ omega (arith, length-replicate (n - length l) d)

  pub take-pad : (n : ℕ) (d : A) (l : List A) → take (length l) (pad n d l) ≡ l
  take-pad n d l = take_at l (replicate (n - length l) d) (length l) refl

  -- a store right past a list appends
  pub pad-snoc : (n : ℕ) (d : A) (l : List A) (a : A) → length l < n → set (pad n d l) (length l) a ≡ pad n d (l ++ (a ∷ []))
  pad-snoc n d l a h =
      let e : n - length l ≡ suc (n - (length l + 1)) = omega arith in
      rw (e, set-append_seam, length-append, append_assoc)

module _ {ℓ} {A B : Type ℓ} (g : A → B) where
  pub map-append : (l m : List A) → map g (l ++ m) ≡ map g l ++ map g m
  map-append [] m = refl
  map-append (x ∷ l) m = ap (λ (k : List B). g x ∷ k) (map-append l m)

  pub length-of-map : (l : List A) → length (map g l) ≡ length l
  length-of-map [] = refl
  length-of-map (x ∷ l) = ap suc (length-of-map l)

  pub mem-map : {y : B} (l : List A) → Memᴰ y (map g l) → (x : A) × Memᴰ x l × (g x ≡ y)
  mem-map [] m = absurd (Memᴰ.not-nil m)
  mem-map (x ∷ l) m =
      ⊎_elim
      (λ s. (x, Memᴰ.head refl, sym s))
      (λ m. let r = mem-map l m in (r.0, Memᴰ.tail r.1, r.2))
      (Memᴰ.cases_cons m)

  pub map-mem : {x : A} (l : List A) → Memᴰ x l → Memᴰ (g x) (map g l)
  map-mem [] m = absurd (Memᴰ.not-nil m)
  map-mem (y ∷ l) m =
      ⊎_elim (λ s. Memᴰ.head (ap g s)) (λ m. Memᴰ.tail (map-mem l m)) (Memᴰ.cases_cons m)

module _ {A B : Type 0} (g : A → B) where
  -- one turn of a loop that stores what it makes of the picked ones into a room of n, with k of them stored
  module _ (f : A → Bool) (n : ℕ) (b : B) (l : List A) (i : ℕ) (d : A) (out : List B) (k : ℕ) (y : B)
      (at : i < length l) (count : k ≡ length (map g (those f (take i l)))) (stored : out ≡ pad n b (map g (those f (take i l)))) where
    pub store_kept : k < n → f (get_or l i d) ≡ true → y ≡ g (get_or l i d)
        → (k + 1 ≡ length (map g (those f (take (i + 1) l)))) × (set out k y ≡ pad n b (map g (those f (take (i + 1) l))))
    store_kept room t made =
        let m = map g (those f (take i l)) in
        let e : map g (those f (take (i + 1) l)) ≡ m ++ (g (get_or l i d) ∷ []) = rw (those-kept f l i d at t, map-append) in
        let r : length m < n = omega arith in
        (omega (arith, ap length e, length-append m (g (get_or l i d) ∷ [])), rw (stored, count, made, pad-snoc n b m (g (get_or l i d)) r, e))

    pub store-gone : f (get_or l i d) ≡ false
        → (k ≡ length (map g (those f (take (i + 1) l)))) × (out ≡ pad n b (map g (those f (take (i + 1) l))))
    store-gone t = let e = those-gone f l i d at t in (rw e count, rw e stored)
