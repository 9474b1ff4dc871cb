-- What a check's answer tells of its fact, and the first fact of two lists.
use Prim.Native.Nat.{ℕ}
use mathlib.Core.Path.{◌≡◌, refl}
use mathlib.Core.Bool.{Bool, true, false, cond}
use mathlib.Core.List.{List, [], ◌∷◌, ◌++◌}
use native.Mathlib.Omega.{arith}
use lib.Dec.{eqb}
use Rattle.std.proofs.Common.{sym, ◌∙◌, inl, inr, ◌≢◌, ◌<◌}
use Rattle.std.specs.Prelude.{◌⊎◌, ◌&&◌, ltb}
use Rattle.std.proofs.Math.Path.{ap}
use Rattle.std.proofs.Math.Option.{none, some}
use Rattle.std.proofs.Common.{ltb-true}
use Rattle.std.proofs.lemmas.Bool.Decides.{eqb_tells}
use Rattle.base_facts.specs.Facts.{check_of, first_of}
use Rattle.std.specs.Prelude.{◌≤◌, Some, None}
use Rattle.base_facts.specs.declared.Refusal.{Refusal}
use Rattle.base_facts.specs.declared.Refusal.TheVariants.{Early, Cut, Foreign, Body, Basic, OtherCkn, OtherAgility, Unverified, BadSet, OwnMi, Stale, Full, NoRoom, Spent, BadStart, BadImage, NotDue, Misreported, InUse}
use Rattle.base_facts.specs.Refusal.{number_of, refusal, told, number_in}

pub check-failed : (t : Bool) → check_of t ≡ None → t ≡ true
check-failed true e = refl
check-failed false e = let z : ◌≡◌ {A = ℕ} 0 1 = cc in absurd (omega arith)

pub check-passed : (t : Bool) → check_of t ≡ Some tt → t ≡ false
check-passed false e = refl
check-passed true e = let z : ◌≡◌ {A = ℕ} 0 1 = cc in absurd (omega arith)

-- a refusal's number tells which it is
pub refusal_numbered : (r : Refusal) → refusal (number_of r) ≡ r
refusal_numbered Early = refl
refusal_numbered Cut = refl
refusal_numbered Foreign = refl
refusal_numbered Body = refl
refusal_numbered Basic = refl
refusal_numbered OtherCkn = refl
refusal_numbered OtherAgility = refl
refusal_numbered Unverified = refl
refusal_numbered BadSet = refl
refusal_numbered OwnMi = refl
refusal_numbered Stale = refl
refusal_numbered Full = refl
refusal_numbered NoRoom = refl
refusal_numbered Spent = refl
refusal_numbered BadStart = refl
refusal_numbered BadImage = refl
refusal_numbered NotDue = refl
refusal_numbered Misreported = refl
refusal_numbered InUse = refl

-- no fact has the number 0
abbrev pub Counted : List (ℕ × Bool) → Type 0
Counted [] = Unit {0}
Counted (f ∷ fs) = (eqb f.0 0 ≡ false) × Counted fs

pub first_more : (fs gs : List (ℕ × Bool)) → Counted fs → first_of (fs ++ gs) ≡ cond (eqb (first_of fs) 0) (first_of gs) (first_of fs)
first_more [] gs c = refl
first_more (f ∷ fs) gs c = go f.1 (first_more fs gs c.1)
  where
    go : (t : Bool) → first_of (fs ++ gs) ≡ cond (eqb (first_of fs) 0) (first_of gs) (first_of fs)
        → cond t f.0 (first_of (fs ++ gs)) ≡ cond (eqb (cond t f.0 (first_of fs)) 0) (first_of gs) (cond t f.0 (first_of fs))
    go true later = rw c.0
    go false later = later

ranked : (n k : ℕ) (r s : Refusal) → number_of r ≡ k → (n ≢ k → number_of s ≡ n) → number_of (cond (eqb n k) r s) ≡ n
ranked n k r s e rest = go (eqb_tells n k)
  where
    go : ((eqb n k ≡ true) × (n ≡ k)) ⊎ ((eqb n k ≡ false) × (n ≢ k)) → number_of (cond (eqb n k) r s) ≡ n
    go (inl b) = rw b.0 (e ∙ sym b.1)
    go (inr b) = rw b.0 (rest b.1)

-- each of the nineteen numbers is that of its refusal
pub number_refused : (n : ℕ) → 0 < n → n ≤ 19 → number_of (refusal n) ≡ n
number_refused n low high =
    ranked n 1 Early _ refl (λ d1.
    ranked n 2 Cut _ refl (λ d2.
    ranked n 3 Foreign _ refl (λ d3.
    ranked n 4 Body _ refl (λ d4.
    ranked n 5 Basic _ refl (λ d5.
    ranked n 6 OtherCkn _ refl (λ d6.
    ranked n 7 OtherAgility _ refl (λ d7.
    ranked n 8 Unverified _ refl (λ d8.
    ranked n 9 BadSet _ refl (λ d9.
    ranked n 10 OwnMi _ refl (λ d10.
    ranked n 11 Stale _ refl (λ d11.
    ranked n 12 Full _ refl (λ d12.
    ranked n 13 NoRoom _ refl (λ d13.
    ranked n 14 Spent _ refl (λ d14.
    ranked n 15 BadStart _ refl (λ d15.
    ranked n 16 BadImage _ refl (λ d16.
    ranked n 17 NotDue _ refl (λ d17.
    ranked n 18 Misreported _ refl (λ d18.
    omega (arith, d1, d2, d3, d4, d5, d6, d7, d8, d9, d10, d11, d12, d13, d14, d15, d16, d17, d18)))))))))))))))))))

-- the numbers of a list of facts are refusals'
abbrev pub known : List (ℕ × Bool) → Bool
known [] = true
known (f ∷ fs) = ltb f.0 20 && known fs

both : (a b : Bool) → (a && b) ≡ true → (a ≡ true) × (b ≡ true)
both true b e = (refl, e)
both false b e = let z : ◌≡◌ {A = ℕ} 0 1 = cc in absurd (omega arith)

pub first_known : (fs : List (ℕ × Bool)) → known fs ≡ true → first_of fs < 20
first_known [] k = omega arith
first_known (f ∷ fs) k = let b = both (ltb f.0 20) (known fs) k in go f.1 (ltb-true f.0 20 b.0) (first_known fs b.1)
  where
    go : (t : Bool) → f.0 < 20 → first_of fs < 20 → cond t f.0 (first_of fs) < 20
    go true a b = a
    go false a b = b

-- so what such a list tells carries the number of its first fact that holds
pub told_number : {A : Type 0} (fs : List (ℕ × Bool)) (x : A) → known fs ≡ true → number_in (told (first_of fs) x) ≡ cond (eqb (first_of fs) 0) none (some (first_of fs))
told_number fs x k = go (eqb_tells (first_of fs) 0)
  where
    go : ((eqb (first_of fs) 0 ≡ true) × (first_of fs ≡ 0)) ⊎ ((eqb (first_of fs) 0 ≡ false) × (first_of fs ≢ 0)) → number_in (told (first_of fs) x) ≡ cond (eqb (first_of fs) 0) none (some (first_of fs))
    go (inl z) = rw z.0
    go (inr z) = let b = first_known fs k in rw z.0 (ap some (number_refused (first_of fs) (omega (arith, z.1)) (omega arith)))
