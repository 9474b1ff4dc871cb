-- How long the parts of an image are, and one turn of the loop that judges an image.
use Prim.Native.Nat.{ℕ, suc, ◌+◌, ◌*◌, ◌^◌, ◌≤◌, ◌<◌}
use mathlib.Core.Path.{◌≡◌, refl, ap, sym, ◌∙◌}
use mathlib.Core.Bool.{◌&&◌}
use mathlib.Core.List.{List, [], ◌∷◌, ◌++◌}
use native.Mathlib.Nat.{mul-le-mul}
use native.Mathlib.Numerals.{add-one}
use native.Mathlib.Omega.{arith}
use lib.ListN.{length, get_or, drop, length-append, drop_of_length-le}
use lib.Dec.{eqb}
use lib.Seq.{sets, drop-cons}
use borrow.Author.Tests.{eq-eqb}
use Rattle.base_octets.specs.Number.{be_at, be_of}
use Rattle.base_octets.specs.Octets.{Octets}
use Rattle.base_octets.proofs.Laws.{be_at-lt, length-be_of, sets_then}
use Rattle.image_layout.specs.Layout.{Part, contents_head, contents_entry, contents_entries, bodies, place, laid_of, entry_kind, records_at, offset_at, laid_from, laid_out}

-- ---- lengths

pub length-head : (n : ℕ) → length (contents_head n) ≡ 4
unfolding contents_head
length-head n = simp (length-append, length-be_of)

pub length-entry : (kind records offset : ℕ) → length (contents_entry kind records offset) ≡ 8
unfolding contents_entry
length-entry kind records offset = simp (length-append, length-be_of)

pub length-entries : (kind at : ℕ) (ps : List Part) → length (contents_entries kind at ps) ≡ length ps * 8
unfolding contents_entries
length-entries kind at [] = refl
length-entries kind at (p ∷ ps) =
    length-append (contents_entry kind p.records at) (contents_entries (suc kind) (at + length p.body) ps)
    ∙ omega (arith, length-entry kind p.records at, length-entries (suc kind) (at + length p.body) ps)

pub length-laid : (ps : List Part) → length (laid_of ps) ≡ place (length ps) + length (bodies ps)
unfolding laid_of
length-laid ps = simp (length-append, length-head, length-entries) (omega arith)

-- ---- stores

pub head-stored : (l l1 l2 : List ℕ) (n : ℕ) → l1 ≡ sets l 0 (be_of 2 n) → l2 ≡ sets l1 2 (be_of 2 0) → l2 ≡ sets l 0 (contents_head n)
unfolding contents_head
head-stored l l1 l2 n e1 e2 = rw (sets_then l 0 2 (be_of 2 n) (be_of 2 0) (length-be_of 2 n), ← e1) e2

pub entry-stored : (l l1 l2 l3 : List ℕ) (at kind records offset : ℕ)
    → l1 ≡ sets l at (be_of 2 kind)
    → l2 ≡ sets l1 (at + 2) (be_of 2 records)
    → l3 ≡ sets l2 (at + 4) (be_of 4 offset)
    → l3 ≡ sets l at (contents_entry kind records offset)
unfolding contents_entry
entry-stored l l1 l2 l3 at kind records offset e1 e2 e3 =
    let n : at + 2 + 2 ≡ at + 4 = omega arith in
    rw (
      sets_then l at 2 (be_of 2 kind) (be_of 2 records ++ be_of 4 offset) (length-be_of 2 kind),
      ← e1,
      sets_then l1 (at + 2) 2 (be_of 2 records) (be_of 4 offset) (length-be_of 2 records),
      ← e2,
      n,
    )
    e3

-- ---- one turn of `laid_out`

-- the records and the size are numbers of two octets
pub body_below : (s : List ℕ) (at n k : ℕ) → Octets s → n ≡ be_at s at 2 → k < 2 ^ 16 → n * k < 2 ^ 32
body_below s at n k h e hk =
    let a : n ≤ 65535 = omega (arith, be_at-lt s at 2 h) in
    let b : k ≤ 65535 = omega arith in
    omega (arith, mul-le-mul a b)

-- the count and the zero hold: what is left is the entries
pub laid-counted : (s sizes : List ℕ) → be_at s 0 2 ≡ length sizes → be_at s 2 2 ≡ 0 → laid_from s 0 (place (length sizes)) sizes ≡ laid_out s sizes
unfolding laid_out
laid-counted s sizes n z = rw (eq-eqb _ _ n, eq-eqb _ _ z)

module _ (s sizes : List ℕ) (i at : ℕ) where
  pub laid_next : i < length sizes
      → laid_from s i at (drop i sizes) ≡ eqb (be_at s (place i) 2) (i + 1) && (eqb (be_at s (place i + 4) 4) at && laid_from s (i + 1) (at + be_at s (place i + 2) 2 * get_or sizes i 0) (drop (i + 1) sizes))
  unfolding laid_from entry_kind records_at offset_at
  laid_next h = ap (laid_from s i at) (drop-cons sizes i 0 h ∙ ap (λ (n : ℕ). get_or sizes i 0 ∷ drop n sizes) (sym (add-one i)))

  pub laid_end : length sizes ≤ i → laid_from s i at (drop i sizes) ≡ eqb at (length s)
  unfolding laid_from
  laid_end h = rw (drop_of_length-le sizes h)
