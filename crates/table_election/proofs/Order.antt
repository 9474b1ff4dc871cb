-- `lower` is a strict order of all ranks: each comparison, and then the rest.
use Prim.Native.Nat.{ℕ, ◌≤◌, ◌<◌}
use mathlib.Core.Path.{◌≡◌, sym, ◌∙◌}
use mathlib.Core.Bool.{Bool, true, false}
use mathlib.Core.Logic.{◌⊎◌, inl, inr, ⊎_elim}
use native.Mathlib.Omega.{arith}
use lib.Dec.{ltb}
use borrow.Author.Tests.{lt-ltb, le-ltb, ltb-true, ltb-false}
use Rattle.table_election.specs.declared.Rank.{Rank}
use Rattle.table_election.specs.Elect.{lex, lower}
use Rattle.law_lists.proofs.Laws.{by_cases, clash}

lex-false : (x y : ℕ) (r : Bool) → lex x y r ≡ false → (y < x) ⊎ ((x ≡ y) × (r ≡ false))
lex-false x y r e =
    by_cases (ltb x y)
    (λ a. clash (sym e ∙ rw a))
    (λ a. by_cases (ltb y x)
    (λ b. inl (ltb-true y x b))
    (λ b. inr (omega (arith, ltb-false y x b, ltb-false x y a), rw (a, b) at e)))

pub lex-lt : (x y : ℕ) (r : Bool) → x < y → lex x y r ≡ true
lex-lt x y r h = rw (lt-ltb x y h)

pub lex-gt : (x y : ℕ) (r : Bool) → y < x → lex x y r ≡ false
lex-gt x y r h = let g : y ≤ x = omega arith in rw (le-ltb x y g, lt-ltb y x h)

pub lex-same : (x y : ℕ) (r : Bool) → x ≡ y → lex x y r ≡ r
lex-same x y r h = let g : y ≤ x = omega arith in let k : x ≤ y = omega arith in rw (le-ltb x y g, le-ltb y x k)

lex-ntrans : (x y z : ℕ) (r s t : Bool) → lex x y r ≡ false → lex y z s ≡ false → (r ≡ false → s ≡ false → t ≡ false) → lex x z t ≡ false
lex-ntrans x y z r s t p q f =
    ⊎_elim
    (λ a. ⊎_elim (λ b. lex-gt x z t (omega arith)) (λ b. lex-gt x z t (omega arith)) (lex-false y z s q))
    (λ a. ⊎_elim (λ b. lex-gt x z t (omega arith)) (λ b. lex-same x z t (omega arith) ∙ f a.1 b.1) (lex-false y z s q))
    (lex-false x y r p)

lex-asym : (x y : ℕ) (r s : Bool) → lex x y r ≡ true → (r ≡ true → s ≡ false) → lex y x s ≡ false
lex-asym x y r s e f =
    by_cases (ltb x y)
    (λ a. lex-gt y x s (ltb-true x y a))
    (λ a. by_cases (ltb y x)
    (λ b. clash (rw (a, b) at e))
    (λ b. lex-same y x s (omega (arith, ltb-false y x b, ltb-false x y a)) ∙ f (rw (a, b) at e)))

lex-both : (x y : ℕ) (r s : Bool) → lex x y r ≡ false → lex y x s ≡ false → (x ≡ y) × (r ≡ false) × (s ≡ false)
lex-both x y r s p q =
    ⊎_elim
    (λ a. ⊎_elim (λ b. absurd (omega arith)) (λ b. absurd (omega arith)) (lex-false y x s q))
    (λ a. ⊎_elim (λ b. absurd (omega arith)) (λ b. (a.0, a.1, b.1)) (lex-false y x s q))
    (lex-false x y r p)

pub lower-ntrans : (a b c : Rank) → lower a b ≡ false → lower b c ≡ false → lower a c ≡ false
lower-ntrans a b c p q =
    lex-ntrans a.priority b.priority c.priority _ _ _ p q λ p q.
    lex-ntrans a.sci b.sci c.sci _ _ _ p q λ p q.
    lex-ntrans a.mi.hi b.mi.hi c.mi.hi _ _ _ p q λ p q.
    le-ltb a.mi.lo c.mi.lo (omega (arith, ltb-false a.mi.lo b.mi.lo p, ltb-false b.mi.lo c.mi.lo q))

pub lower-asym : (a b : Rank) → lower a b ≡ true → lower b a ≡ false
lower-asym a b e =
    lex-asym a.priority b.priority _ _ e λ e.
    lex-asym a.sci b.sci _ _ e λ e.
    lex-asym a.mi.hi b.mi.hi _ _ e λ e.
    le-ltb b.mi.lo a.mi.lo (omega (arith, ltb-true a.mi.lo b.mi.lo e))

pub lower-irrefl : (a : Rank) → lower a a ≡ false
lower-irrefl a = by_cases (lower a a) (λ e. lower-asym a a e) (λ e. e)

-- two ranks of which neither is lower are the same
pub lower-total : (a b : Rank) → lower a b ≡ false → lower b a ≡ false → a ≡ b
lower-total a b p q =
    let x = lex-both a.priority b.priority _ _ p q in
    let y = lex-both a.sci b.sci _ _ x.1 x.2 in
    let z = lex-both a.mi.hi b.mi.hi _ _ y.1 y.2 in
    let w : a.mi.lo ≡ b.mi.lo = omega (arith, ltb-false a.mi.lo b.mi.lo z.1, ltb-false b.mi.lo a.mi.lo z.2) in
    λ i. record { priority = x.0 i; sci = y.0 i; mi = record { hi = z.0 i; lo = w i } }
