-- One turn of the loop in which the entries that stay move up: what stood before place i is aged, with blank slots past it.
use Prim.Native.Nat.{ℕ, ◌+◌, ◌-◌, ◌≤◌, ◌<◌}
use mathlib.Core.Path.{◌≡◌, refl, ap, sym, ◌∙◌}
use mathlib.Core.Bool.{true, false}
use mathlib.Core.List.{List, [], ◌∷◌, ◌++◌, append_assoc}
use native.Mathlib.Numerals.{add-one}
use native.Mathlib.Omega.{arith}
use lib.ListN.{length, take, drop, get_or, set, length-take}
use lib.Seq.{drop-cons, set_at, set-append_left, get_or_at}
use Rattle.table.specs.declared.Peer.{Peer}
use Rattle.law_lists.specs.Lists.{pad}
use Rattle.table.specs.Table.{blank_peer}
use Rattle.table_expiry.specs.Expiry.{fresh_peer, aged_peer, aged_list}
use Rattle.law_lists.proofs.Laws.{length-pad, store_kept, store-gone}
use Rattle.table_expiry.proofs.Aging.{length-aged, pad-more}

-- the slots after i turns
abbrev pub moved_up : ℕ → List Peer → ℕ → List Peer
moved_up time l i = pad i blank_peer (aged_list time (take i l)) ++ drop i l

module _ (time : ℕ) (l : List Peer) (i : ℕ) (out : List Peer) (k : ℕ) (b : Peer)
    (at : i < length l) (count : k ≡ length (aged_list time (take i l))) (stored : out ≡ moved_up time l i) (clean : b ≡ blank_peer) where
  few : length (aged_list time (take i l)) ≤ i
  few = omega (arith, length-aged time (take i l), length-take i l)

  next : out ≡ pad i blank_peer (aged_list time (take i l)) ++ get_or l i blank_peer ∷ drop (i + 1) l
  next = stored ∙ ap (λ (r : List Peer). pad i blank_peer (aged_list time (take i l)) ++ r) (rw add-one (drop-cons l i blank_peer at))

  -- the entry at i still stands there
  here : get_or out i blank_peer ≡ get_or l i blank_peer
  here =
      let m = pad i blank_peer (aged_list time (take i l)) in
      ap (λ (r : List Peer). get_or r i blank_peer) next ∙ get_or_at m (get_or l i blank_peer) (drop (i + 1) l) blank_peer i (length-pad i blank_peer (aged_list time (take i l)) few)

  -- taking it out leaves one more blank slot
  taken_out : set out i b ≡ pad (i + 1) blank_peer (aged_list time (take i l)) ++ drop (i + 1) l
  taken_out =
      let m = aged_list time (take i l) in
      let one : i + 1 - i ≡ 1 = omega arith in
      rw (clean, next, set_at (pad i blank_peer m) (get_or l i blank_peer) (drop (i + 1) l) blank_peer i (length-pad i blank_peer m few))
      (sym (append_assoc (pad i blank_peer m) (blank_peer ∷ []) (drop (i + 1) l))
      ∙ ap (λ (r : List Peer). r ++ drop (i + 1) l) (rw one at (pad-more (i + 1) i blank_peer m few (omega arith))))

  -- it stays: it goes to the end of those that stayed
  pub moved-kept : (y : Peer) → fresh_peer time (get_or out i blank_peer) ≡ true → y ≡ aged_peer time (get_or out i blank_peer)
      → (k + 1 ≡ length (aged_list time (take (i + 1) l))) × (set (set out i b) k y ≡ moved_up time l (i + 1))
  moved-kept y t made =
      let m = aged_list time (take i l) in
      let r = store_kept (aged_peer time) (fresh_peer time) (i + 1) blank_peer l i blank_peer (pad (i + 1) blank_peer m) k y at count refl (omega (arith, few)) (ap (fresh_peer time) (sym here) ∙ t) (made ∙ ap (aged_peer time) here) in
      let room : k < length (pad (i + 1) blank_peer m) = omega (arith, few, length-pad (i + 1) blank_peer m (omega (arith, few))) in
      (r.0, rw (taken_out, set-append_left (pad (i + 1) blank_peer m) (drop (i + 1) l) k y room) (ap (λ (o : List Peer). o ++ drop (i + 1) l) r.1))

  -- it is removed
  pub moved-gone : fresh_peer time (get_or out i blank_peer) ≡ false
      → (k ≡ length (aged_list time (take (i + 1) l))) × (set out i b ≡ moved_up time l (i + 1))
  moved-gone t =
      let m = aged_list time (take i l) in
      let r = store-gone (aged_peer time) (fresh_peer time) (i + 1) blank_peer l i blank_peer (pad (i + 1) blank_peer m) k blank_peer at count refl (ap (fresh_peer time) (sym here) ∙ t) in
      (r.0, rw taken_out (ap (λ (o : List Peer). o ++ drop (i + 1) l) r.1))
