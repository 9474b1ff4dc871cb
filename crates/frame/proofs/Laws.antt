-- What an answer tells of the facts behind it, and the comparison of a CKN, one octet at a time.
use Prim.Native.Nat.{ℕ, ◌+◌, ◌<◌, ◌≤◌}
use mathlib.Core.Path.{◌≡◌, refl}
use mathlib.Core.List.{List}
use mathlib.Core.Bool.{Bool, true, false, cond}
use native.Mathlib.Numerals.{add-one}
use lib.ListN.{length, get_or, drop, drop_of_length-le}
use lib.Seq.{drop-cons}
use borrow.Author.Tests.{eq-eqb, ne_eqb}
use Rattle.std.specs.Prelude.{Some, None, Result, Ok, Err}
use lib.Dec.{eqb}
use Rattle.base_facts.specs.Refusal.{told, refusal}
use Rattle.base_facts.specs.declared.Refusal.{Refusal}
use Rattle.frame.specs.Basic.{length_of, fact2, body_len}
use Rattle.frame.specs.Ours.{same_at}

pub length-short : (s : List ℕ) → length_of s ≡ None → fact2 s ≡ true
unfolding length_of
length-short s e = go (fact2 s) e
  where
    go : (t : Bool) → cond t None (Some (body_len s)) ≡ None → t ≡ true
    go true e = refl
    go false e = absurd (cc)

pub length-octets : (s : List ℕ) (n : ℕ) → length_of s ≡ Some n → (fact2 s ≡ false) × (body_len s ≡ n)
unfolding length_of
length-octets s n e = go (fact2 s) e
  where
    go : (t : Bool) → cond t None (Some (body_len s)) ≡ Some n → (t ≡ false) × (body_len s ≡ n)
    go false e = (refl, cc)
    go true e = absurd (cc)

pub same_next : (s : List ℕ) (p q i j : ℕ) (key : List ℕ) → i < length key → get_or s p 0 ≡ get_or key i 0 → q ≡ p + 1 → j ≡ i + 1 → same_at s q (drop j key) ≡ same_at s p (drop i key)
unfolding same_at
same_next s p q i j key h e a b = rw (a, b, drop-cons key i 0 h, eq-eqb _ _ e, add-one i)

pub same_not : (s : List ℕ) (p i : ℕ) (key : List ℕ) → i < length key → (get_or s p 0 ≡ get_or key i 0 → ⊥) → same_at s p (drop i key) ≡ false
unfolding same_at
same_not s p i key h n = rw (drop-cons key i 0 h, ne_eqb _ _ n)

pub same_end : (s : List ℕ) (p i : ℕ) (key : List ℕ) → length key ≤ i → same_at s p (drop i key) ≡ true
unfolding same_at
same_end s p i key h = rw (drop_of_length-le key h)

pub ruleset same_steps = (same_next, same_not, same_end)

-- a refusal doesn't ask what the answer would have been
pub told_refused : {A B : Type 0} (n : ℕ) (x : A) (y : B) (e : Refusal) → told n x ≡ Err e → told n y ≡ Err e
told_refused {A} {B} n x y e h = go (eqb n 0) h
  where
    go : (t : Bool) → cond t (Ok x) (Err (refusal n)) ≡ Err e → ◌≡◌ {A = Result B Refusal} (cond t (Ok y) (Err (refusal n))) (Err e)
    go false h = cc
    go true h = absurd (cc)
