-- An image of some parts is laid out, and its entries tell of them.
use Prim.Native.Nat.{ℕ, suc, ◌+◌, ◌*◌, ◌^◌, ◌<◌}
use mathlib.Core.Path.{◌≡◌, refl, ap, ap₂, sym, ◌∙◌}
use mathlib.Core.Bool.{true}
use mathlib.Core.List.{List, [], ◌∷◌, ◌++◌, append-nil}
use native.Mathlib.Nat.{add-zero, zero-add}
use native.Mathlib.Numerals.{add-one}
use native.Mathlib.Omega.{arith}
use lib.ListN.{length, take, drop, length-append}
use lib.Seq.{take-append_seam, drop-append_seam}
use borrow.Author.Tests.{eq-eqb}
use Rattle.base_octets.specs.Number.{be_at, be_of}
use Rattle.base_octets.proofs.Laws.{length-be_of}
use Rattle.base_octets.proofs.Fields.{Stands, first, second, moved, number-stands}
use Rattle.image_layout.specs.Layout.{Part, contents_head, contents_entry, contents_entries, bodies, place, laid_of, entry_kind, records_at, offset_at, laid_from, laid_out, parts_from, parts_in}
use Rattle.image_layout.proofs.Laws.{length-head, length-entry, length-entries, length-laid, laid-counted}

-- parts whose records have these sizes
abbrev pub Matching : List Part → List ℕ → Type 0
Matching [] [] = Unit {0}
Matching [] (k ∷ ks) = ⊥
Matching (p ∷ ps) [] = ⊥
Matching (p ∷ ps) (k ∷ ks) = (p.records < 2 ^ 16) × (length p.body ≡ p.records * k) × Matching ps ks

pub matching-length : (ps : List Part) (sizes : List ℕ) → Matching ps sizes → length ps ≡ length sizes
matching-length [] [] m = refl
matching-length [] (k ∷ ks) m = absurd m
matching-length (p ∷ ps) [] m = absurd m
matching-length (p ∷ ps) (k ∷ ks) m = ap suc (matching-length ps ks m.2)

-- entry i of an image tells of the part, whose octets stand at `at`
pub record Told (s : List ℕ) (i : ℕ) (p : Part) (at : ℕ) : Type 0 where
  pub kind : entry_kind s i ≡ i + 1
  pub records : records_at s i ≡ p.records
  pub offset : offset_at s i ≡ at
  pub body : Stands s p.body at

-- and the entries from i on of these parts, which follow one another from `at` on
abbrev pub ToldFrom : List ℕ → ℕ → ℕ → List Part → Type 0
ToldFrom s i at [] = Unit {0}
ToldFrom s i at (p ∷ ps) = Told s i p at × ToldFrom s (i + 1) (at + length p.body) ps

module _ (s : List ℕ) (i records at : ℕ) (hi : suc i < 2 ^ 16) (hr : records < 2 ^ 16) (ha : at < 2 ^ 32) (st : Stands s (contents_entry (suc i) records at) (place i)) where
  entry-kind : entry_kind s i ≡ i + 1
  unfolding entry_kind contents_entry
  entry-kind =
      number-stands s 2 (suc i) (place i) (omega arith) (first s (be_of 2 (suc i)) (be_of 2 records ++ be_of 4 at) (place i) st) ∙ sym (add-one i)

  rest : Stands s (be_of 2 records ++ be_of 4 at) (place i + 2)
  unfolding contents_entry
  rest = second s (be_of 2 (suc i)) (be_of 2 records ++ be_of 4 at) (place i) 2 (length-be_of 2 (suc i)) st

  entry-records : records_at s i ≡ records
  unfolding records_at
  entry-records = number-stands s 2 records (place i + 2) (omega arith) (first s (be_of 2 records) (be_of 4 at) (place i + 2) rest)

  entry-offset : offset_at s i ≡ at
  unfolding offset_at
  entry-offset =
      let e : place i + 2 + 2 ≡ place i + 4 = omega arith in
      number-stands s 4 at (place i + 4) (omega arith) (moved s (be_of 4 at) _ _ e (second s (be_of 2 records) (be_of 4 at) (place i + 2) 2 (length-be_of 2 records) rest))

told-from : (s : List ℕ) (i at : ℕ) (ps : List Part) (sizes : List ℕ) → Matching ps sizes → i + length ps < 2 ^ 16 → at + length (bodies ps) < 2 ^ 32
    → Stands s (contents_entries (suc i) at ps) (place i) → Stands s (bodies ps) at → ToldFrom s i at ps
unfolding contents_entries bodies
told-from s i at [] sizes m n z e b = tt
told-from s i at (p ∷ ps) [] m n z e b = absurd m
told-from s i at (p ∷ ps) (k ∷ ks) m n z e b =
    let r = p.records in
    let at' = at + length p.body in
    let len = length-append p.body (bodies ps) in
    let hi : suc i < 2 ^ 16 = omega arith in
    let ha : at < 2 ^ 32 = omega arith in
    let n' : i + 1 + length ps < 2 ^ 16 = omega arith in
    let z' : at' + length (bodies ps) < 2 ^ 32 = omega arith in
    let next : place i + 8 ≡ place (suc i) = omega arith in
    let one = first s (contents_entry (suc i) r at) (contents_entries (suc (suc i)) at' ps) (place i) e in
    let more = moved s (contents_entries (suc (suc i)) at' ps) _ _ next (second s (contents_entry (suc i) r at) (contents_entries (suc (suc i)) at' ps) (place i) 8 (length-entry (suc i) r at) e) in (
      record {
        kind = entry-kind s i r at hi m.0 ha one;
        records = entry-records s i r at hi m.0 ha one;
        offset = entry-offset s i r at hi m.0 ha one;
        body = first s p.body (bodies ps) at b;
      },
      told-from s (i + 1) at' ps ks m.2 n' z' (rw add-one more) (second s p.body (bodies ps) at (length p.body) refl b),
    )

-- the body of each part stands where the bodies before it end
pub told_at : (s : List ℕ) (i at : ℕ) (before : List Part) (p : Part) (after : List Part) → ToldFrom s i at (before ++ (p ∷ after))
    → Told s (i + length before) p (at + length (bodies before))
unfolding bodies
told_at s i at [] p after t = rw (add-zero i, add-zero at) t.0
told_at s i at (q ∷ qs) p after t =
    let e : i + 1 + length qs ≡ i + suc (length qs) = omega arith in
    let o : at + length q.body + length (bodies qs) ≡ at + length (q.body ++ bodies qs) = omega (arith, length-append q.body (bodies qs)) in
    rw (← e, ← o) (told_at s (i + 1) (at + length q.body) qs p after t.1)

told-laid : (s : List ℕ) (i at : ℕ) (ps : List Part) (sizes : List ℕ) → Matching ps sizes → ToldFrom s i at ps → at + length (bodies ps) ≡ length s → laid_from s i at sizes ≡ true
unfolding laid_from bodies
told-laid s i at [] [] m t e = let e' : at ≡ length s = omega arith in eq-eqb _ _ e'
told-laid s i at [] (k ∷ ks) m t e = absurd m
told-laid s i at (p ∷ ps) [] m t e = absurd m
told-laid s i at (p ∷ ps) (k ∷ ks) m t e =
    let a : at + length p.body ≡ at + records_at s i * k = ap (λ (n : ℕ). at + n) (m.1 ∙ ap (λ (n : ℕ). n * k) (sym t.0.records)) in
    let e' : at + length p.body + length (bodies ps) ≡ length s = omega (arith, length-append p.body (bodies ps)) in
    rw (eq-eqb _ _ t.0.kind, eq-eqb _ _ t.0.offset, ← a) (told-laid s (i + 1) (at + length p.body) ps ks m.2 t.1 e')

-- what stands there is what is cut out there
cut_stands : (s x : List ℕ) (at : ℕ) → Stands s x at → take (length x) (drop at s) ≡ x
cut_stands s x at st =
    ap₂ (λ (l : List ℕ) (k : ℕ). take (length x) (drop k l)) st.whole (sym st.place)
    ∙ ap (take (length x)) (drop-append_seam st.before (x ++ st.after))
    ∙ take-append_seam x st.after

told-parts : (s : List ℕ) (i at : ℕ) (ps : List Part) (sizes : List ℕ) → Matching ps sizes → ToldFrom s i at ps → parts_from s i at sizes ≡ ps
unfolding parts_from
told-parts s i at [] [] m t = refl
told-parts s i at [] (k ∷ ks) m t = absurd m
told-parts s i at (p ∷ ps) [] m t = absurd m
told-parts s i at (p ∷ ps) (k ∷ ks) m t =
    let n : records_at s i * k ≡ length p.body = ap (λ (r : ℕ). r * k) t.0.records ∙ sym m.1 in
    rw (n, t.0.records, cut_stands s p.body at t.0.body, told-parts s (i + 1) (at + length p.body) ps ks m.2 t.1)

module _ (ps : List Part) (sizes : List ℕ) (m : Matching ps sizes) (few : length ps < 2 ^ 16) (fit : length (laid_of ps) < 2 ^ 32) where
  tail-stands : Stands (laid_of ps) (contents_entries 1 (place (length ps)) ps ++ bodies ps) 4
  unfolding laid_of
  tail-stands =
      record {
        before = contents_head (length ps);
        after = [];
        whole = ap (λ (l : List ℕ). contents_head (length ps) ++ l) (sym (append-nil _));
        place = length-head (length ps);
      }

  head-stands : Stands (laid_of ps) (be_of 2 (length ps) ++ be_of 2 0) 0
  unfolding laid_of contents_head
  head-stands =
      record {
        before = [];
        after = contents_entries 1 (place (length ps)) ps ++ bodies ps;
        whole = refl;
        place = refl;
      }

  -- each entry tells of its part, and the part stands there
  pub told : ToldFrom (laid_of ps) 0 (place (length ps)) ps
  told =
      let n : 0 + length ps < 2 ^ 16 = omega arith in
      let z : place (length ps) + length (bodies ps) < 2 ^ 32 = omega (arith, length-laid ps) in
      let es = contents_entries 1 (place (length ps)) ps in
      told-from (laid_of ps) 0 (place (length ps)) ps sizes m n z
      (first (laid_of ps) es (bodies ps) 4 tail-stands)
      (second (laid_of ps) es (bodies ps) 4 (length ps * 8) (length-entries 1 (place (length ps)) ps) tail-stands)

  pub laid-round : laid_out (laid_of ps) sizes ≡ true
  laid-round =
      let s = laid_of ps in
      let n = matching-length ps sizes m in
      let count : be_at s 0 2 ≡ length ps = number-stands s 2 (length ps) 0 (omega arith) (first s (be_of 2 (length ps)) (be_of 2 0) 0 head-stands) in
      let zero : be_at s 2 2 ≡ 0 = number-stands s 2 0 2 (omega arith) (second s (be_of 2 (length ps)) (be_of 2 0) 0 2 (length-be_of 2 (length ps)) head-stands) in
      sym (laid-counted s sizes (count ∙ n) zero) ∙ rw (← n) (told-laid s 0 (place (length ps)) ps sizes m told (sym (length-laid ps)))

  -- the parts that are cut out of it are those that it was made of
  pub parts-round : parts_in (laid_of ps) sizes ≡ ps
  unfolding parts_in
  parts-round = rw (← matching-length ps sizes m) (told-parts (laid_of ps) 0 (place (length ps)) ps sizes m told)

-- one part among the others: its entry tells of it, and it stands where the bodies before it end
pub told_part : (before : List Part) (p : Part) (after : List Part) (sizes : List ℕ) → Matching (before ++ (p ∷ after)) sizes
    → length (before ++ (p ∷ after)) < 2 ^ 16 → length (laid_of (before ++ (p ∷ after))) < 2 ^ 32
    → Told (laid_of (before ++ (p ∷ after))) (length before) p (place (length (before ++ (p ∷ after))) + length (bodies before))
told_part before p after sizes m few fit =
    let ps = before ++ (p ∷ after) in
    rw (zero-add (length before)) at (told_at (laid_of ps) 0 (place (length ps)) before p after (told ps sizes m few fit))
