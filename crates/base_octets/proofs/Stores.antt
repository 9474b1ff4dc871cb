-- Runs of stores, one after the other.
use Prim.Native.Nat.{ℕ, suc, ◌+◌, ◌*◌, ◌≤◌, ◌<◌}
use mathlib.Core.Path.{◌≡◌, ap, ap₂, sym, ◌∙◌}
use mathlib.Core.List.{List, [], ◌∷◌, ◌++◌}
use native.Mathlib.Omega.{arith}
use native.Mathlib.Numerals.{add-one}
use native.Mathlib.Nat.{zero-add, add_assoc}
use lib.ListN.{length, get_or, take, drop, length-append, length-take}
use lib.Seq.{sets, sets-eq, drop-cons, get_or-take}
use Rattle.base_octets.specs.Run.{runs_of}
use Rattle.base_octets.proofs.Laws.{sets-append, sets_then}

-- two runs of stores, the second where the first one ended, a place that was computed
pub sets-on : (l l1 l2 : List ℕ) (at to : ℕ) (a b : List ℕ) → to ≡ at + length a → l1 ≡ sets l at a → l2 ≡ sets l1 to b → l2 ≡ sets l at (a ++ b)
sets-on l l1 l2 at to a b e e1 e2 =
    e2 ∙ ap₂ (λ (z : List ℕ) (k : ℕ). sets z k b) e1 e ∙ sym (sets-append l at a b)

-- the same, n octets on
pub sets-two : (l l1 l2 : List ℕ) (at n : ℕ) (a b : List ℕ) → length a ≡ n → l1 ≡ sets l at a → l2 ≡ sets l1 (at + n) b → l2 ≡ sets l at (a ++ b)
sets-two l l1 l2 at n a b e = sets-on l l1 l2 at (at + n) a b (ap (λ (k : ℕ). at + k) (sym e))

pub sets-three : (l l1 l2 l3 : List ℕ) (at n k : ℕ) (a b c : List ℕ) → length a ≡ n → length b ≡ k
    → l1 ≡ sets l at a → l2 ≡ sets l1 (at + n) b → l3 ≡ sets l2 (at + (n + k)) c → l3 ≡ sets l at (a ++ (b ++ c))
sets-three l l1 l2 l3 at n k a b c ea eb e1 e2 e3 =
    sets-two l l1 l3 at n a (b ++ c) ea e1 (sets-two l1 l2 l3 (at + n) k b c eb e2 (e3 ∙ ap (λ (j : ℕ). sets l2 j c) (sym (add_assoc at n k))))

-- a whole stored from the start
pub sets-whole : (f l : List ℕ) → length f ≤ length l → sets l 0 f ≡ f ++ drop (length f) l
sets-whole f l h =
    let h' : 0 + length f ≤ length l = omega arith in
    sets-eq f l 0 h' ∙ ap (λ (k : ℕ). f ++ drop k l) (zero-add (length f))

-- elements of n octets each, one after the other
module _ {A : Type 0} (f : A → List ℕ) (n : ℕ) (len : (x : A) → length (f x) ≡ n) where
  pub length_runs : (xs : List A) → length (runs_of f xs) ≡ length xs * n
  length_runs [] = omega arith
  length_runs (x ∷ xs) = length-append (f x) (runs_of f xs) ∙ omega (arith, len x, length_runs xs)

  -- one of them, in the terms of a loop that counts up
  pub runs-next : (l l' : List ℕ) (at i : ℕ) (xs : List A) (d : A) → i < length xs → l' ≡ sets l (at + i * n) (f (get_or xs i d))
      → sets l' (at + (i + 1) * n) (runs_of f (drop (i + 1) xs)) ≡ sets l (at + i * n) (runs_of f (drop i xs))
  runs-next l l' at i xs d h e =
      let p : at + i * n + n ≡ at + (i + 1) * n = omega arith in
      rw (drop-cons xs i d h, sets_then l (at + i * n) n (f (get_or xs i d)) (runs_of f (drop (suc i) xs)) (len (get_or xs i d)), p, e, add-one)
