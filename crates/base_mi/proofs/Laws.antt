-- Laws of member identifiers and list entries.
use Prim.Native.Nat.{ℕ, zero, suc, ◌+◌, ◌^◌, ◌≤◌, ◌<◌}
use mathlib.Core.Path.{◌≡◌, refl, ap, sym, ◌∙◌}
use mathlib.Core.List.{List, [], ◌∷◌, ◌++◌}
use native.Mathlib.Omega.{arith}
use native.Mathlib.Nat.{add-zero}
use lib.ListN.{length, get_or, length-append, get_or-append}
use lib.Seq.{get_or_at}
use Rattle.std.specs.Prelude.{take, drop}
use Rattle.std.proofs.Math.Seq.{take-suc}
use Rattle.std.proofs.lemmas.List.{get_or-drop, length-drop}
use mathlib.Core.Bool.{Bool, true, false}
use borrow.Author.Tests.{ltb-true, ltb-false}
use lib.Dec.{ltb, lit≤}
use Rattle.base_octets.specs.Number.{be_at, be_of}
use Rattle.base_mi.specs.Mi.{mi_at, mi_octets}
use Rattle.base_mi.specs.Fitting.{Fitting}
use Rattle.base_mi.specs.Entry.{cut_at, entry_at, entry_octets}
use Rattle.base_mi.specs.declared.Mi.{Mi}
use Rattle.base_mi.specs.declared.entry.Entry.{Entry}
use Rattle.base_octets.proofs.Laws.{length-be_of, be_at-out}
use Rattle.base_octets.proofs.Fields.{Stands, first, second, number-stands}

pub length-mi : (m : Mi) → length (mi_octets m) ≡ 12
unfolding mi_octets
length-mi m = length-append (be_of 8 m.hi) (be_of 4 m.lo) ∙ omega (arith, length-be_of 8 m.hi, length-be_of 4 m.lo)

-- ---- entries

pub length_cut : (s : List ℕ) (at n : ℕ) → length (cut_at s at n) ≡ n
unfolding cut_at
length_cut s at zero = refl
length_cut s at (suc n) = length-append (cut_at s at n) (get_or s (at + n) 0 ∷ []) ∙ omega (arith, length_cut s at n)

-- where the octets are there, they are a part of the slice
pub cut-taken : (s : List ℕ) (at n : ℕ) → at + n ≤ length s → take n (drop at s) ≡ cut_at s at n
unfolding cut_at
cut-taken s at zero h = refl
cut-taken s at (suc n) h =
    let inside : n < length (drop at s) = omega (arith, length-drop at s) in
    take-suc (drop at s) n 0 inside ∙ rw (cut-taken s at n (omega arith), get_or-drop at s n 0)

pub get_or-cut : (s : List ℕ) (at n i : ℕ) → i < n → get_or (cut_at s at n) i 0 ≡ get_or s (at + i) 0
unfolding cut_at
get_or-cut s at zero i h = absurd (omega arith)
get_or-cut s at (suc n) i h = go (ltb i n) refl (get_or-cut s at n i)
  where
    go : (t : Bool) → ltb i n ≡ t → (i < n → get_or (cut_at s at n) i 0 ≡ get_or s (at + i) 0) → get_or (cut_at s at n ++ (get_or s (at + n) 0 ∷ [])) i 0 ≡ get_or s (at + i) 0
    go true e before =
        let lt : i < n = ltb-true i n e in
        get_or-append (cut_at s at n) (get_or s (at + n) 0 ∷ []) 0 i (rw (length_cut s at n) lt) ∙ before lt
    go false e before =
        let ge : n ≤ i = ltb-false i n e in
        let m : i ≡ n = omega arith in
        rw m (get_or_at (cut_at s at n) (get_or s (at + n) 0) [] 0 n (length_cut s at n))

-- a number read within what was copied out
pub be-cut : (s : List ℕ) (at n k m : ℕ) → k + m ≤ n → be_at (cut_at s at n) k m ≡ be_at s (at + k) m
unfolding be_at
be-cut s at n k zero h = refl
be-cut s at n k (suc m) h =
    let h' : k + m ≤ n = omega arith in
    let h'' : k + m < n = omega arith in
    let e : at + (k + m) ≡ at + k + m = omega arith in
    omega (arith, be-cut s at n k m h', get_or-cut s at n (k + m) h'', ap (λ (j : ℕ). get_or s j 0) e)

-- an entry read from what was copied out
pub mi-cut : (s : List ℕ) (at : ℕ) → mi_at (cut_at s at 16) 0 ≡ mi_at s at
unfolding mi_at
mi-cut s at =
    let hi = be-cut s at 16 0 8 (lit≤ tt) ∙ ap (λ (k : ℕ). be_at s k 8) (add-zero at) in
    let lo = be-cut s at 16 8 4 (lit≤ tt) in
    λ i. record { hi = hi i; lo = lo i }

-- past the end an entry is all zeros
pub entry-out : (s : List ℕ) (at : ℕ) → length s ≤ at → record { mi = record { hi = 0; lo = 0 }; mn = 0 } ≡ entry_at s at
unfolding entry_at mi_at
entry-out s at h =
    let far : length s ≤ at + 8 = omega arith in
    let farther : length s ≤ at + 12 = omega arith in
    λ i. record {
      mi = record { hi = sym (be_at-out s at 8 h) i; lo = sym (be_at-out s (at + 8) 4 far) i };
      mn = sym (be_at-out s (at + 12) 4 farther) i;
    }

pub length-entry : (e : Entry) → length (entry_octets e) ≡ 16
unfolding entry_octets
length-entry e = length-append (mi_octets e.mi) (be_of 4 e.mn) ∙ omega (arith, length-mi e.mi, length-be_of 4 e.mn)

-- ---- what stands in a run of octets is read there again

pub mi-stands : (f : List ℕ) (m : Mi) (at : ℕ) → Fitting m → Stands f (mi_octets m) at → mi_at f at ≡ m
unfolding mi_at mi_octets
mi-stands f m at h s =
    let hi = number-stands f 8 m.hi at h.hi (first f (be_of 8 m.hi) (be_of 4 m.lo) at s) in
    let lo = number-stands f 4 m.lo (at + 8) h.lo (second f (be_of 8 m.hi) (be_of 4 m.lo) at 8 (length-be_of 8 m.hi) s) in
    λ i. record { hi = hi i; lo = lo i }

pub entry-stands : (f : List ℕ) (e : Entry) (at : ℕ) → Fitting e.mi → e.mn < 2 ^ 32 → Stands f (entry_octets e) at → entry_at f at ≡ e
unfolding entry_at entry_octets
entry-stands f e at h k s =
    let mi = mi-stands f e.mi at h (first f (mi_octets e.mi) (be_of 4 e.mn) at s) in
    let mn = number-stands f 4 e.mn (at + 12) k (second f (mi_octets e.mi) (be_of 4 e.mn) at 12 (length-mi e.mi) s) in
    λ i. record { mi = mi i; mn = mn i }
