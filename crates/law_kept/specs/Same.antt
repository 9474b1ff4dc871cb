-- Identifiers are the same exactly where their numbers are.
use Rattle.std.specs.Prelude.{◌≡◌, refl, true, false, eqb}
use Rattle.std.proofs.Common.{ap, sym, ◌∙◌, eqb-true, eq-eqb}
use Rattle.base_mi.specs.declared.Mi.{Mi}
use Rattle.base_mi.specs.Mi.{mi_same}
use Rattle.law_lists.proofs.Laws.{by_cases, clash, first-of, second-of}

pub same-eq : (a b : Mi) → mi_same a b ≡ true → a ≡ b
same-eq a b e =
    let x = eqb-true a.hi b.hi (first-of (eqb a.hi b.hi) (eqb a.lo b.lo) e) in
    let y = eqb-true a.lo b.lo (second-of (eqb a.hi b.hi) (eqb a.lo b.lo) e) in
    λ i. record { hi = x i; lo = y i }

pub same_refl : (a : Mi) → mi_same a a ≡ true
same_refl a = rw (eq-eqb a.hi a.hi refl, eq-eqb a.lo a.lo refl)

pub same-sym : (a b : Mi) → mi_same a b ≡ false → mi_same b a ≡ false
same-sym a b e =
    by_cases (mi_same b a)
    (λ h. clash (sym e ∙ ap (mi_same a) (same-eq b a h) ∙ same_refl a))
    (λ h. h)
