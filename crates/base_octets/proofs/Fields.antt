-- What stands in a run of octets after some others is read there again.
use Prim.Native.Nat.{ℕ, ◌+◌, ◌^◌, ◌<◌, ◌≤◌}
use mathlib.Core.Path.{◌≡◌, ap, ap₂, sym, ◌∙◌}
use mathlib.Core.List.{List, ◌∷◌, ◌++◌, append_assoc}
use native.Mathlib.Omega.{arith}
use lib.ListN.{length, get_or, take, drop, length-append}
use lib.Seq.{get_or_at, take-append_seam, drop-append_seam}
use borrow.Author.Tests.{le-ltb}
use Rattle.base_octets.specs.Number.{be_at, be_of}
use Rattle.base_octets.specs.Run.{part_of}
use Rattle.base_octets.proofs.Laws.{be-written}

-- `f` is `p`, then `x`, then `q`, and x begins at `at`
pub record Stands (f x : List ℕ) (at : ℕ) : Type 0 where
  pub before : List ℕ
  pub after : List ℕ
  pub whole : f ≡ before ++ (x ++ after)
  pub place : length before ≡ at

-- the first and the second part of what stands there
pub first : (f x y : List ℕ) (at : ℕ) → Stands f (x ++ y) at → Stands f x at
first f x y at s =
    record {
      before = s.before;
      after = y ++ s.after;
      whole = s.whole ∙ ap (λ (l : List ℕ). s.before ++ l) (append_assoc x y s.after);
      place = s.place;
    }

pub second : (f x y : List ℕ) (at n : ℕ) → length x ≡ n → Stands f (x ++ y) at → Stands f y (at + n)
second f x y at n e s =
    record {
      before = s.before ++ x;
      after = s.after;
      whole = s.whole ∙ ap (λ (l : List ℕ). s.before ++ l) (append_assoc x y s.after) ∙ sym (append_assoc s.before x (y ++ s.after));
      place = length-append s.before x ∙ ap₂ (λ (a b : ℕ). a + b) s.place e;
    }

pub moved : (f x : List ℕ) (at at' : ℕ) → at ≡ at' → Stands f x at → Stands f x at'
moved f x at at' e s = record { before = s.before; after = s.after; whole = s.whole; place = s.place ∙ e }

pub stands-fit : (f x : List ℕ) (at : ℕ) → Stands f x at → at + length x ≤ length f
stands-fit f x at s =
    let e = ap length s.whole ∙ length-append s.before (x ++ s.after) in
    let p = s.place in
    omega (arith, length-append x s.after)

pub octet-stands : (f : List ℕ) (x : ℕ) (xs : List ℕ) (at : ℕ) → Stands f (x ∷ xs) at → get_or f at 0 ≡ x
octet-stands f x xs at s = ap (λ (l : List ℕ). get_or l at 0) s.whole ∙ get_or_at s.before x (xs ++ s.after) 0 at s.place

pub number-stands : (f : List ℕ) (n v at : ℕ) → v < 256 ^ n → Stands f (be_of n v) at → be_at f at n ≡ v
number-stands f n v at h s =
    ap₂ (λ (l : List ℕ) (k : ℕ). be_at l k n) s.whole (sym s.place) ∙ be-written s.before s.after n v h

-- the part that is handed back
pub part-stands : (f x : List ℕ) (at : ℕ) → Stands f x at → part_of f at (length x) ≡ x
unfolding part_of
part-stands f x at s =
    rw (le-ltb _ _ (stands-fit f x at s))
    (ap₂ (λ (l : List ℕ) (k : ℕ). take (length x) (drop k l)) s.whole (sym s.place)
    ∙ ap (take (length x)) (drop-append_seam s.before (x ++ s.after))
    ∙ take-append_seam x s.after)
