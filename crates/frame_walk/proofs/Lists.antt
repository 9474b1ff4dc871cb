-- The entries of a list by their index, and the search one entry at a time.
use Prim.Native.Nat.{ℕ, zero, suc, ◌+◌, ◌*◌, ◌≤◌, ◌<◌}
use mathlib.Core.Path.{◌≡◌, refl, ap, ◌∙◌}
use mathlib.Core.List.{List, ◌∷◌}
use mathlib.Core.Bool.{true, false}
use native.Mathlib.Numerals.{add-one}
use native.Mathlib.Omega.{arith}
use lib.ListN.{length, get_or, drop, drop_of_length-le}
use lib.Seq.{drop-cons}
use Rattle.base_mi.specs.Mi.{mi_same}
use Rattle.base_mi.specs.Entry.{entry_at}
use Rattle.base_mi.specs.declared.Mi.{Mi}
use Rattle.base_mi.specs.declared.entry.Entry.{Entry}
use Rattle.frame_walk.specs.List.{entries_from, seek_entry}
use Rattle.std.specs.Prelude.{Some, None}

pub length-entries : (n : ℕ) (s : List ℕ) (p : ℕ) → length (entries_from n s p) ≡ n
unfolding entries_from
length-entries zero s p = refl
length-entries (suc n) s p = ap suc (length-entries n s (p + 16))

pub get_or-entries : (n : ℕ) (s : List ℕ) (p i : ℕ) (d : Entry) → i < n → get_or (entries_from n s p) i d ≡ entry_at s (p + i * 16)
unfolding entries_from
get_or-entries zero s p i d h = absurd (omega arith)
get_or-entries (suc n) s p zero d h = let e : p ≡ p + 0 * 16 = omega arith in ap (entry_at s) e
get_or-entries (suc n) s p (suc i) d h =
    let h' : i < n = omega arith in
    let e : p + 16 + i * 16 ≡ p + suc i * 16 = omega arith in
    get_or-entries n s (p + 16) i d h' ∙ ap (entry_at s) e

module _ (n : ℕ) (s : List ℕ) (p : ℕ) (m : Mi) where
  headed : (i : ℕ) → i < n → drop i (entries_from n s p) ≡ entry_at s (p + i * 16) ∷ drop (i + 1) (entries_from n s p)
  headed i h =
      let d = entry_at s p in
      let len = length-entries n s p in
      let h' : i < length (entries_from n s p) = omega arith in
      rw (add-one, drop-cons (entries_from n s p) i d h', get_or-entries n s p i d h)

  pub seek_hit : (i : ℕ) → i < n → mi_same (entry_at s (p + i * 16)).mi m ≡ true → seek_entry m i (drop i (entries_from n s p)) ≡ Some (record { index = i; mn = (entry_at s (p + i * 16)).mn })
  seek_hit i h e = rw (headed i h, e)

  pub seek-miss : (i : ℕ) → i < n → mi_same (entry_at s (p + i * 16)).mi m ≡ false → seek_entry m (i + 1) (drop (i + 1) (entries_from n s p)) ≡ seek_entry m i (drop i (entries_from n s p))
  seek-miss i h e = rw (headed i h, e)

  pub seek-end : (i : ℕ) → n ≤ i → seek_entry m i (drop i (entries_from n s p)) ≡ None
  seek-end i h =
      let len = length-entries n s p in
      let h' : length (entries_from n s p) ≤ i = omega arith in
      rw (drop_of_length-le (entries_from n s p) h')

pub ruleset seek_steps = (seek_hit, seek-miss, seek-end)
