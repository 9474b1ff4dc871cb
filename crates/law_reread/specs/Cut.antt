-- Octets cut out of a run, field by field, and fields standing in one.
use Rattle.std.specs.Prelude.{ℕ, ◌+◌, ◌≤◌, ◌<◌, ◌≡◌, List, [], ◌∷◌, ◌++◌, length, get_or, take, drop, replicate}
use Rattle.std.proofs.Common.{ap, ap₂, sym, ◌∙◌, append-nil, arith, add-zero, length-drop, drop_of_length-le, take-add, drop-drop, take-suc, get_or-drop, length-take-le, le-ltb}
use Rattle.std.proofs.lemmas.List.{length-replicate}
use Rattle.std.proofs.lemmas.List.Edits.{sets, sets-eq}
use Rattle.base_octets.specs.Number.{be_at, be_of}
use Rattle.base_octets.specs.Run.{part_of}
use Rattle.base_octets.specs.Octets.{Octets}
use Rattle.base_octets.proofs.Laws.{be-back}
use Rattle.base_octets.proofs.Fields.{Stands, second, moved}
use Rattle.base_mi.specs.Mi.{mi_at, mi_octets}

-- The n octets from `at`.
abbrev pub cut : List ℕ → ℕ → ℕ → List ℕ
cut s at n = take n (drop at s)

-- a cut of n octets and the cut of k after it make the cut of both
pub glue : (s : List ℕ) (at to n k m : ℕ) (x y : List ℕ) → to ≡ at + n → m ≡ n + k → x ≡ cut s at n → y ≡ cut s to k → x ++ y ≡ cut s at m
glue s at to n k m x y p q ex ey =
    let e : cut s to k ≡ take k (drop n (drop at s)) = ap (take k) (ap (λ (j : ℕ). drop j s) p ∙ sym (drop-drop n at s)) in
    ap₂ (λ (a b : List ℕ). a ++ b) ex (ey ∙ e) ∙ sym (take-add n k (drop at s)) ∙ ap (λ (j : ℕ). take j (drop at s)) (sym q)

pub length_cut : (s : List ℕ) (at n : ℕ) → at + n ≤ length s → length (cut s at n) ≡ n
length_cut s at n h = length-take-le n (drop at s) (simp length-drop (omega arith))

pub octet-cut : (s : List ℕ) (at : ℕ) → at < length s → get_or s at 0 ∷ [] ≡ cut s at 1
octet-cut s at h =
    let more : 0 < length (drop at s) = simp length-drop (omega arith) in
    sym (take-suc (drop at s) 0 0 more ∙ ap (λ (x : ℕ). x ∷ []) (get_or-drop at s 0 0 ∙ ap (λ (j : ℕ). get_or s j 0) (add-zero at)))

pub mi-cut : (s : List ℕ) (at : ℕ) → Octets s → at + 12 ≤ length s → mi_octets (mi_at s at) ≡ cut s at 12
unfolding mi_at mi_octets
mi-cut s at o h =
    glue s at (at + 8) 8 4 12 (be_of 8 (be_at s at 8)) (be_of 4 (be_at s (at + 8) 4)) (omega arith) (omega arith)
    (be-back s at 8 o (omega arith))
    (be-back s (at + 8) 4 o (omega arith))

pub part_cut : (s : List ℕ) (at n : ℕ) → at + n ≤ length s → part_of s at n ≡ cut s at n
unfolding part_of
part_cut s at n h = rw (le-ltb _ _ h)

-- an array filled from its start with as many octets as it has holds just these
pub filled : (x : List ℕ) (n : ℕ) → length x ≡ n → sets (replicate n 0) 0 x ≡ x
filled x n e =
    let l : List ℕ = replicate n 0 in
    let z : length l ≡ n = length-replicate n 0 in
    let fit : 0 + length x ≤ length l = omega arith in
    let gone : length l ≤ 0 + length x = omega arith in
    sets-eq x l 0 fit ∙ ap (λ (r : List ℕ). x ++ r) (drop_of_length-le l gone) ∙ append-nil x

-- what stands after a part of n octets
pub after-it : (f x y : List ℕ) (at n to : ℕ) → length x ≡ n → at + n ≡ to → Stands f (x ++ y) at → Stands f y to
after-it f x y at n to e p s = moved f y (at + n) to p (second f x y at n e s)
