-- The search for our identifier.
use Prim.Native.Nat.{ℕ, suc, ◌+◌, ◌-◌, ◌/◌, ◌≤◌, ◌<◌}
use mathlib.Core.Path.{◌≡◌, refl, ap, ◌∙◌}
use mathlib.Core.Bool.{Bool, true, false, cond, ◌||◌, ◌&&◌}
use mathlib.Core.List.{List, [], ◌∷◌}
use native.Mathlib.Omega.{arith}
use lib.ListN.{length, drop, length-drop}
use lib.Seq.{drop-drop}
use lib.Dec.{ltb}
use Rattle.std.specs.Prelude.{Some, None}
use Rattle.base_mi.specs.Mi.{mi_same}
use Rattle.base_mi.specs.declared.Mi.{Mi}
use Rattle.base_mi.specs.declared.entry.Entry.{Entry}
use Rattle.frame_places.specs.declared.Spot.{Spot}
use Rattle.frame_walk.specs.List.{entries_from, list_at, entries_in, seek_entry}
use Rattle.frame_walk.specs.declared.list.Found.{Found}
use Rattle.frame_walk.proofs.Lists.{length-entries}
use Rattle.call_hearing.specs.Proof.{is_recent, any_recent, named_in}

module _ (own : Mi) (last : ℕ) where
  -- what the search from index i on finds is there, and before it nobody is named
  pub seek-at : (i : ℕ) (l : List Entry) (f : Found) → seek_entry own i l ≡ Some f
      → (i ≤ f.index) × (f.index < i + length l) × (any_recent own last l ≡ is_recent f.mn last || any_recent own last (drop (f.index + 1 - i) l))
  seek-at i [] f e = absurd (cc)
  seek-at i (x ∷ xs) f e = go (mi_same x.mi own) (seek-at (i + 1) xs f) e
    where
      go : (t : Bool)
          → (seek_entry own (i + 1) xs ≡ Some f → (i + 1 ≤ f.index) × (f.index < i + 1 + length xs) × (any_recent own last xs ≡ is_recent f.mn last || any_recent own last (drop (f.index + 1 - (i + 1)) xs)))
          → cond t (Some (record { index = i; mn = x.mn })) (seek_entry own (i + 1) xs) ≡ Some f
          → (i ≤ f.index) × (f.index < i + suc (length xs)) × ((t && is_recent x.mn last) || any_recent own last xs ≡ is_recent f.mn last || any_recent own last (drop (f.index + 1 - i) (x ∷ xs)))
      go true later e' =
          let r : record { index = i; mn = x.mn } ≡ f = cc in
          let a : i ≡ f.index = ap (λ (k : Found). k.index) r in
          let m : x.mn ≡ f.mn = ap (λ (k : Found). k.mn) r in
          let d : f.index + 1 - i ≡ 1 = omega arith in
          (omega arith, omega arith, rw (m, d))
      go false later e' =
          let r = later e' in
          let d : f.index + 1 - i ≡ suc (f.index + 1 - (i + 1)) = omega (arith, r.0) in
          (omega (arith, r.0), omega (arith, r.1), rw d r.2)

  pub seek-none : (i : ℕ) (l : List Entry) → seek_entry own i l ≡ None → any_recent own last l ≡ false
  seek-none i [] e = refl
  seek-none i (x ∷ xs) e = go (mi_same x.mi own) (seek-none (i + 1) xs) e
    where
      go : (t : Bool) → (seek_entry own (i + 1) xs ≡ None → any_recent own last xs ≡ false) → cond t (Some (record { index = i; mn = x.mn })) (seek_entry own (i + 1) xs) ≡ None
          → (t && is_recent x.mn last) || any_recent own last xs ≡ false
      go true later e' = absurd (cc)
      go false later e' = later e'

  -- one entry with our identifier, of a list from index i on
  pub named-next : (i : ℕ) (l : List Entry) (f : Found) → i ≤ length l → seek_entry own i (drop i l) ≡ Some f
      → (i ≤ f.index) × (f.index < length l) × (any_recent own last (drop i l) ≡ is_recent f.mn last || any_recent own last (drop (f.index + 1) l))
  named-next i l f h e =
      let a = seek-at i (drop i l) f e in
      let n : length (drop i l) ≡ length l - i = length-drop i l in
      let d : i + (f.index + 1 - i) ≡ f.index + 1 = omega (arith, a.0) in
      (a.0, omega (arith, a.1), a.2 ∙ ap (λ (k : List Entry). is_recent f.mn last || any_recent own last k) (drop-drop (f.index + 1 - i) i l ∙ ap (λ (k : ℕ). drop k l) d))

cond-length : (t : Bool) (l : List Entry) (n : ℕ) → length l ≤ n → length (cond t [] l) ≤ n
cond-length true l n h = omega arith
cond-length false l n h = h

pub entries-few : (s : List ℕ) (place len : ℕ) → length (entries_in s place len) ≤ len / 16
unfolding entries_in list_at
entries-few s place len = cond-length (ltb (length s) (place + (4 + len))) _ (len / 16) (let e = length-entries (len / 16) s (place + 4) in omega arith)

-- a list without octets names nobody
pub named-empty : (s : List ℕ) (list : Spot) (own : Mi) (last : ℕ) → list.len ≡ 0 → false ≡ named_in s (Some list) own last
unfolding named_in entries_in list_at entries_from
named-empty s list own last e = rw e (go (ltb (length s) (list.place + (4 + 0))))
  where
    go : (t : Bool) → false ≡ any_recent own last (cond t [] [])
    go true = refl
    go false = refl
