-- A peer list stored: entry by entry, then the header before them; and what the lists that are values make of it.
use Prim.Native.Nat.{ℕ, suc, ◌+◌, ◌*◌, ◌≤◌, ◌<◌}
use mathlib.Core.Path.{◌≡◌, refl, ap, sym, ◌∙◌}
use mathlib.Core.Bool.{Bool, true, false}
use mathlib.Core.List.{List, [], ◌∷◌, ◌++◌, map, append_assoc, append-nil}
use native.Mathlib.Omega.{arith}
use lib.ListN.{length, take, get_or, set, length-append}
use lib.Seq.{sets}
use Rattle.law_lists.specs.Lists.{those}
use Rattle.law_lists.proofs.Laws.{those-kept, those-gone, map-append}
use Rattle.base_octets.specs.Run.{runs_of}
use Rattle.base_octets.proofs.Laws.{sets-set}
use Rattle.base_octets.proofs.Stores.{sets-on}
use Rattle.base_mi.specs.declared.entry.Entry.{Entry}
use Rattle.base_mi.specs.Entry.{entry_octets, entries_of}
use Rattle.table.specs.declared.Peer.{Peer}
use Rattle.table.specs.declared.Table.{Table}
use Rattle.table_counts.specs.Counts.{is_of, entry_of, live_list, potential_list}
use Rattle.table_counts.proofs.Listing.{live-listed, potential-listed}
use Rattle.frame_writer.specs.Frame.{set_header, list_octets, list_set}
use Rattle.frame_writer.proofs.Laws.{length-list, no-list, some-list, length_some}
use Rattle.call_lists.specs.Lists.{peer_list}

-- the entries of those that are asked for, of the first i peers
abbrev pub picked : Bool → List Peer → ℕ → List Entry
picked live peers i = map entry_of (those (is_of live) (take i peers))

-- a run of stores before another may be made last
sets-swap : (l : List ℕ) (i j : ℕ) (a b : List ℕ) → i + length a ≤ j → sets (sets l j b) i a ≡ sets (sets l i a) j b
sets-swap l i j a [] h = refl
sets-swap l i j a (x ∷ b) h =
    let h' : i + length a ≤ suc j = omega arith in
    sets-swap (set l j x) i (suc j) a b h' ∙ ap (λ (k : List ℕ). sets k (suc j) b) (sym (sets-set l i a j x h))

-- two runs of stores, the first one stored last
sets-before : (l l1 l2 : List ℕ) (at n : ℕ) (a b : List ℕ) → length a ≡ n → l1 ≡ sets l (at + n) b → l2 ≡ sets l1 at a → l2 ≡ sets l at (a ++ b)
sets-before l l1 l2 at n a b e e1 e2 =
    let to : at + n ≡ at + length a = omega arith in
    let h : at + length a ≤ at + n = omega arith in
    sets-on l (sets l at a) l2 at (at + n) a b to refl (e2 ∙ ap (λ (k : List ℕ). sets k at a) e1 ∙ sets-swap l at (at + n) a b h)

length-zero : (l : List ℕ) → length l ≡ 0 → l ≡ []
length-zero [] e = refl
length-zero (x ∷ l) e = absurd (omega arith)

list-snoc : (es : List Entry) (e : Entry) → list_octets (es ++ (e ∷ [])) ≡ list_octets es ++ entry_octets e
unfolding list_octets
list-snoc [] e = append-nil (entry_octets e)
list-snoc (x ∷ es) e =
    ap (λ (k : List ℕ). entry_octets x ++ k) (list-snoc es e) ∙ sym (append_assoc (entry_octets x) (runs_of entry_octets es) (entry_octets e))

-- one turn of a loop that stores the entries of the picked peers, k of them stored from `at`
module _ (f : Peer → Bool) (l : List Peer) (i : ℕ) (d : Peer) (lent out : List ℕ) (at k : ℕ) (here : i < length l)
    (count : k ≡ length (map entry_of (those f (take i l)))) (stored : out ≡ sets lent at (list_octets (map entry_of (those f (take i l))))) where
  pub entry_kept : (out' : List ℕ) (e : Entry) → f (get_or l i d) ≡ true → e ≡ entry_of (get_or l i d) → out' ≡ sets out (at + k * 16) (entry_octets e)
      → (k + 1 ≡ length (map entry_of (those f (take (i + 1) l)))) × (out' ≡ sets lent at (list_octets (map entry_of (those f (take (i + 1) l)))))
  entry_kept out' e t made put =
      let m = map entry_of (those f (take i l)) in
      let x = entry_of (get_or l i d) in
      let s : map entry_of (those f (take (i + 1) l)) ≡ m ++ (x ∷ []) = rw (those-kept f l i d here t, map-append) in
      let to : at + k * 16 ≡ at + length (list_octets m) = omega (arith, length-list m) in (
        omega (arith, ap length s, length-append m (x ∷ [])),
        sets-on lent out out' at (at + k * 16) (list_octets m) (entry_octets x) to stored (put ∙ ap (λ (y : Entry). sets out (at + k * 16) (entry_octets y)) made)
            ∙ ap (sets lent at) (sym (list-snoc m x) ∙ ap list_octets (sym s)),
      )

  pub entry_gone : f (get_or l i d) ≡ false
      → (k ≡ length (map entry_of (those f (take (i + 1) l)))) × (out ≡ sets lent at (list_octets (map entry_of (those f (take (i + 1) l)))))
  entry_gone t = let e = those-gone f l i d here t in (rw e count, rw e stored)

-- the loop's end, where none was stored, and where the header is stored past it
module _ (lent out : List ℕ) (at t k : ℕ) (es : List Entry) (count : k ≡ length es) (stored : out ≡ sets lent (at + 4) (list_octets es)) where
  pub none-stored : k ≡ 0 → (at ≡ at + length (list_set t es)) × (out ≡ sets lent at (list_set t es))
  none-stored e =
      let z : length es ≡ 0 = omega arith in
      let n = no-list t es z in
      let o : list_octets es ≡ [] = length-zero (list_octets es) (omega (arith, length-list es)) in
      (omega (arith, ap length n), stored ∙ ap (sets lent (at + 4)) o ∙ ap (sets lent at) (sym n))

  pub some_stored : (out' : List ℕ) → (k ≡ 0 → ⊥) → out' ≡ sets out at (set_header t 0 (k * 16))
      → (at + 4 + k * 16 ≡ at + length (list_set t es)) × (out' ≡ sets lent at (list_set t es))
  some_stored out' e put =
      let n : length es ≡ 0 → ⊥ = omega arith in (
        omega (arith, length_some t es n),
        sets-before lent out out' at 4 (set_header t 0 (k * 16)) (list_octets es) refl stored put
            ∙ ap (λ (j : ℕ). sets lent at (set_header t 0 (j * 16) ++ list_octets es)) count ∙ ap (sets lent at) (sym (some-list t es n)),
      )

-- ---- what is written from a list that is a value is what is written from the table

pub live-set : (t : Table) → list_set 1 (entries_of (live_list t)) ≡ peer_list true t
unfolding peer_list
live-set t = ap (list_set 1) (live-listed t)

pub potential-set : (t : Table) → list_set 2 (entries_of (potential_list t)) ≡ peer_list false t
unfolding peer_list
potential-set t = ap (list_set 2) (potential-listed t)
