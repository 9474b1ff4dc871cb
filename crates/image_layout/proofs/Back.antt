-- An image that is laid out is the image of the parts that are cut out of it.
use Prim.Native.Nat.{ℕ, suc, ◌+◌, ◌*◌, ◌≤◌}
use mathlib.Core.Path.{◌≡◌, refl, ap, ap₂, sym, ◌∙◌}
use mathlib.Core.Bool.{Bool, true, false, ◌&&◌}
use mathlib.Core.List.{List, [], ◌∷◌, ◌++◌}
use native.Mathlib.Numerals.{add-one}
use native.Mathlib.Omega.{arith}
use lib.ListN.{length, take, drop, length-drop, take-append-drop, drop_of_length-le}
use lib.Seq.{drop-drop, take-add, length-take-le}
use lib.Dec.{eqb}
use borrow.Author.Tests.{eqb-true}
use Rattle.base_octets.specs.Number.{be_at, be_of}
use Rattle.base_octets.specs.Octets.{Octets}
use Rattle.base_octets.proofs.Laws.{be_at-lt, be-back}
use Rattle.image_layout.specs.Layout.{contents_head, contents_entry, contents_entries, bodies, place, laid_of, entry_kind, records_at, offset_at, laid_from, laid_out, parts_from, parts_in}
use Rattle.image_layout.proofs.Round.{Matching, ToldFrom}

clash {ℓ} : {C : Type ℓ} → false ≡ true → C
clash e = let z : ◌≡◌ {A = ℕ} 0 1 = cc in absurd (omega arith)

-- three tests that hold
three-of : (a b c : Bool) → (a && (b && c)) ≡ true → (a ≡ true) × (b ≡ true) × (c ≡ true)
three-of true true c e = (refl, refl, e)
three-of true false c e = clash e
three-of false b c e = clash e

-- the entries from i on, of kinds whose records have these sizes: each tells its kind and where its body begins, and the last body ends the image
abbrev pub PlacedFrom : List ℕ → ℕ → ℕ → List ℕ → Type 0
PlacedFrom s i at [] = at ≡ length s
PlacedFrom s i at (k ∷ ks) = (entry_kind s i ≡ i + 1) × (offset_at s i ≡ at) × PlacedFrom s (i + 1) (at + records_at s i * k) ks

pub placed-from : (s : List ℕ) (i at : ℕ) (sizes : List ℕ) → laid_from s i at sizes ≡ true → PlacedFrom s i at sizes
unfolding laid_from
placed-from s i at [] e = eqb-true _ _ e
placed-from s i at (k ∷ ks) e =
    let at' = at + records_at s i * k in
    let t = three-of (eqb (entry_kind s i) (i + 1)) (eqb (offset_at s i) at) (laid_from s (i + 1) at' ks) e in
    (eqb-true _ _ t.0, eqb-true _ _ t.1, placed-from s (i + 1) at' ks t.2)

-- every body ends within the image
pub placed-fit : (s : List ℕ) (i at : ℕ) (sizes : List ℕ) → PlacedFrom s i at sizes → at ≤ length s
placed-fit s i at [] p = omega arith
placed-fit s i at (k ∷ ks) p = omega (arith, placed-fit s (i + 1) (at + records_at s i * k) ks p.2)

-- n octets, then the m after them
cut-add : (s : List ℕ) (at n m : ℕ) → take n (drop at s) ++ take m (drop (at + n) s) ≡ take (n + m) (drop at s)
cut-add s at n m = rw (take-add n m (drop at s), drop-drop n at s)

pub length-parts : (s : List ℕ) (i at : ℕ) (sizes : List ℕ) → length (parts_from s i at sizes) ≡ length sizes
unfolding parts_from
length-parts s i at [] = refl
length-parts s i at (k ∷ ks) = ap suc (length-parts s (i + 1) (at + records_at s i * k) ks)

-- the octets of a cut part
length_cut : (s : List ℕ) (at n : ℕ) → at + n ≤ length s → length (take n (drop at s)) ≡ n
length_cut s at n h = length-take-le n (drop at s) (simp length-drop (omega arith))

parts-bodies : (s : List ℕ) (i at : ℕ) (sizes : List ℕ) → PlacedFrom s i at sizes → bodies (parts_from s i at sizes) ≡ drop at s
unfolding parts_from bodies
parts-bodies s i at [] p = sym (drop_of_length-le s {i = at} (omega arith))
parts-bodies s i at (k ∷ ks) p =
    let n = records_at s i * k in
    rw (parts-bodies s (i + 1) (at + n) ks p.2, ← drop-drop n at s) (take-append-drop n (drop at s))

entry-back : (s : List ℕ) (i : ℕ) → Octets s → place i + 8 ≤ length s → contents_entry (entry_kind s i) (records_at s i) (offset_at s i) ≡ take 8 (drop (place i) s)
unfolding contents_entry entry_kind records_at offset_at
entry-back s i h fit =
    let a : place i + 2 ≤ length s = omega arith in
    let b : place i + 2 + 2 ≤ length s = omega arith in
    let c : place i + 4 + 4 ≤ length s = omega arith in
    let e : place i + 4 ≡ place i + 2 + 2 = omega arith in
    ap₂ ◌++◌ (be-back s (place i) 2 h a) (ap₂ ◌++◌ (be-back s (place i + 2) 2 h b) (be-back s (place i + 4) 4 h c ∙ ap (λ (k : ℕ). take 4 (drop k s)) e) ∙ cut-add s (place i + 2) 2 4)
    ∙ cut-add s (place i) 2 6

parts-entries : (s : List ℕ) (i at : ℕ) (sizes : List ℕ) → Octets s → PlacedFrom s i at sizes → place (i + length sizes) ≤ length s
    → contents_entries (suc i) at (parts_from s i at sizes) ≡ take (length sizes * 8) (drop (place i) s)
unfolding parts_from contents_entries
parts-entries s i at [] h p fit = refl
parts-entries s i at (k ∷ ks) h p fit =
    let n = records_at s i * k in
    let here : at + n ≤ length s = placed-fit s (i + 1) (at + n) ks p.2 in
    let fit' : place (i + 1 + length ks) ≤ length s = omega arith in
    let one : place i + 8 ≤ length s = omega arith in
    let e : contents_entry (suc i) (records_at s i) at ≡ take 8 (drop (place i) s) =
    ap₂ (λ (a b : ℕ). contents_entry a (records_at s i) b) (sym (add-one i) ∙ sym p.0) (sym p.1) ∙ entry-back s i h one in
    let next : place (i + 1) ≡ place i + 8 = omega arith in
    let rest : contents_entries (suc (suc i)) (at + n) (parts_from s (i + 1) (at + n) ks) ≡ take (length ks * 8) (drop (place i + 8) s) =
    rw (← next, ← add-one i) (parts-entries s (i + 1) (at + n) ks h p.2 fit') in
    let all : 8 + length ks * 8 ≡ suc (length ks) * 8 = omega arith in
    rw (length_cut s at n here, e, rest, ← all) (cut-add s (place i) 8 (length ks * 8))

-- the parts have these sizes
pub parts-matching : (s : List ℕ) (i at : ℕ) (sizes : List ℕ) → Octets s → PlacedFrom s i at sizes → Matching (parts_from s i at sizes) sizes
unfolding parts_from records_at
parts-matching s i at [] h p = tt
parts-matching s i at (k ∷ ks) h p =
    let n = records_at s i * k in
    let here : at + n ≤ length s = placed-fit s (i + 1) (at + n) ks p.2 in
    (omega (arith, be_at-lt s (place i + 2) 2 h), length_cut s at n here, parts-matching s (i + 1) (at + n) ks h p.2)

-- and each entry tells of its part
pub parts-told : (s : List ℕ) (i at : ℕ) (sizes : List ℕ) → PlacedFrom s i at sizes → ToldFrom s i at (parts_from s i at sizes)
unfolding parts_from
parts-told s i at [] p = tt
parts-told s i at (k ∷ ks) p =
    let n = records_at s i * k in
    let here : at + n ≤ length s = placed-fit s (i + 1) (at + n) ks p.2 in
    let fit : at ≤ length s = omega arith in (
      record {
        kind = p.0;
        records = refl;
        offset = p.1;
        body = record {
          before = take at s;
          after = drop (at + n) s;
          whole = sym (rw (← drop-drop n at s, take-append-drop n (drop at s)) (take-append-drop at s));
          place = length-take-le at s fit;
        };
      },
      rw (length_cut s at n here) (parts-told s (i + 1) (at + n) ks p.2),
    )

module _ (s sizes : List ℕ) (e : laid_out s sizes ≡ true) where
  tests : (eqb (be_at s 0 2) (length sizes) ≡ true) × (eqb (be_at s 2 2) 0 ≡ true) × (laid_from s 0 (place (length sizes)) sizes ≡ true)
  unfolding laid_out
  tests = three-of (eqb (be_at s 0 2) (length sizes)) (eqb (be_at s 2 2) 0) (laid_from s 0 (place (length sizes)) sizes) e

  laid-count : be_at s 0 2 ≡ length sizes
  laid-count = eqb-true _ _ tests.0

  laid-zero : be_at s 2 2 ≡ 0
  laid-zero = eqb-true _ _ tests.1

  -- where each body begins, and that the last one ends the image
  pub laid-placed : PlacedFrom s 0 (place (length sizes)) sizes
  laid-placed = placed-from s 0 (place (length sizes)) sizes tests.2

  pub laid-matching : Octets s → Matching (parts_in s sizes) sizes
  unfolding parts_in
  laid-matching h = parts-matching s 0 (place (length sizes)) sizes h laid-placed

  pub laid-told : ToldFrom s 0 (place (length sizes)) (parts_in s sizes)
  unfolding parts_in
  laid-told = parts-told s 0 (place (length sizes)) sizes laid-placed

  pub laid-back : Octets s → s ≡ laid_of (parts_in s sizes)
  unfolding laid_of parts_in contents_head
  laid-back h =
      let n = length sizes in
      let at = place n in
      let ps = parts_from s 0 at sizes in
      let fit = placed-fit s 0 at sizes laid-placed in
      let fit' : place (0 + n) ≤ length s = omega arith in
      let len : length ps ≡ n = length-parts s 0 at sizes in
      let a : 0 + 2 ≤ length s = omega arith in
      let b : 2 + 2 ≤ length s = omega arith in
      let head : be_of 2 n ++ be_of 2 0 ≡ take 4 s =
      ap₂ (λ (x y : ℕ). be_of 2 x ++ be_of 2 y) (sym laid-count) (sym laid-zero) ∙ ap₂ ◌++◌ (be-back s 0 2 h a) (be-back s 2 2 h b) ∙ cut-add s 0 2 2 in
      let entries : contents_entries 1 at ps ≡ take (n * 8) (drop 4 s) = parts-entries s 0 at sizes h laid-placed fit' in
      let rest : bodies ps ≡ drop (n * 8) (drop 4 s) = parts-bodies s 0 at sizes laid-placed ∙ sym (drop-drop (n * 8) 4 s) in
      sym (rw (len, head, entries, rest, take-append-drop (n * 8) (drop 4 s)) (take-append-drop 4 s))
