-- Entering and updating, as a law of the list of entries.
use Prim.Native.Nat.{ℕ, zero, suc, ◌+◌, ◌-◌, ◌≤◌, ◌<◌, min}
use Rattle.std.specs.Prelude.{◌≡◌, refl, Bool, Option, Some, None, set, replicate}
use Rattle.std.proofs.Math.Path.{ap, sym}
use Rattle.std.proofs.Common.{◌∙◌, length-set, length-append}
use Rattle.std.proofs.Math.Bool.{true, false}
use mathlib.Core.List.{List, [], ◌∷◌, ◌++◌}
use native.Mathlib.Omega.{arith}
use Rattle.std.proofs.Math.ListN.{length, take, length-take}
use Rattle.std.proofs.lemmas.List.{set-append_left}
use Rattle.std.proofs.Math.Seq.{take-set-lt, take-suc-set}
use Rattle.std.proofs.Math.Dec.{leb}
use borrow.Author.Tests.{lt-ltb, le-ltb, leb-true, leb-false}
use Rattle.base_mi.specs.declared.Mi.{Mi}
use Rattle.base_mi.specs.Mi.{mi_same}
use Rattle.table.specs.declared.Peer.{Peer}
use Rattle.table.specs.declared.Table.{Table}
use Rattle.table_lookup.specs.declared.Held.{Held}
use Rattle.table_enter.specs.declared.Heard.{Heard}
use Rattle.table.specs.Table.{blank_peer, entries, table_of, pushed}
use Rattle.table_lookup.specs.Look.{seek, held_in, no_room_for}
use Rattle.table_enter.specs.Enter.{held_peer, replaced, updated, entered_at, entered, enter_list}
use Rattle.table_expiry.specs.Kept.{Tidy}
use Rattle.law_lists.proofs.Laws.{by_cases, clash, never, pad-snoc}
use Rattle.law_kept.specs.Same.{same-eq, same_refl}
use Rattle.law_kept.specs.Apart.{found-same}
use Rattle.table_expiry.proofs.Aging.{whole-tidy}

-- a proof by what looking up gave
pub by-held {ℓ} : {C : Type ℓ} (held : Option Held) → ((i : ℕ) (p : Peer) → held ≡ Some (record { at = i; peer = p }) → C) → (held ≡ None → C) → C
by-held (Some h) a n = a h.at h.peer refl
by-held None a n = n refl

pub found-missing {ℓ} : {C : Type ℓ} (h : Held) → Some h ≡ None → C
found-missing h e = never (cc)

seek-above : (m : Mi) (k i : ℕ) (p : Peer) (l : List Peer) → seek m k l ≡ Some (record { at = i; peer = p }) → k ≤ i
seek-above m k i p [] e = found-missing _ (sym e)
seek-above m k i p (q ∷ l) e =
    by_cases (mi_same m q.mi)
    (λ b. let a : k ≡ i = ap (λ (h : Held). h.at) (found-same (rw b at e)) in omega arith)
    (λ b. omega (arith, seek-above m (k + 1) i p l (rw b at e)))

-- an entry stored and an entry put at the end, in the table of a list
set-table_of : (l : List Peer) (i : ℕ) (x : Peer) → i < length l → replaced (table_of l) i x ≡ table_of (set l i x)
unfolding replaced
set-table_of l i x h =
    rw (set-append_left l (replicate (16 - length l) blank_peer) i x h)
    (ap (λ (k : ℕ). record { peers = set l i x ++ replicate (16 - k) blank_peer; count = k }) (sym (length-set l i x)))

pushed-table_of : (l : List Peer) (x : Peer) → length l < 16 → pushed (table_of l) x ≡ table_of (l ++ (x ∷ []))
unfolding pushed
pushed-table_of l x h = rw (lt-ltb (length l) 16 h, pad-snoc 16 blank_peer l x h, length-append)

module _ (h : Heard) (proves : Bool) (time : ℕ) where
  -- ---- the list

  -- where the sender was found, its entry is updated in its place
  enter-found : (k j : ℕ) (p : Peer) (l : List Peer) → seek h.mi k l ≡ Some (record { at = k + j; peer = p })
      → (j < length l) × (set l j (updated p h proves time) ≡ enter_list h proves time l)
  enter-found k j p [] e = found-missing _ (sym e)
  enter-found k zero p (q ∷ l) e =
      by_cases (mi_same h.mi q.mi)
      (λ b. let a : q ≡ p = ap (λ (h : Held). h.peer) (found-same (rw b at e)) in (omega arith, rw (b, a)))
      (λ b. absurd (omega (arith, seek-above h.mi (k + 1) (k + 0) p l (rw b at e))))
  enter-found k (suc j) p (q ∷ l) e =
      by_cases (mi_same h.mi q.mi)
      (λ b. let a : k ≡ k + suc j = ap (λ (h : Held). h.at) (found-same (rw b at e)) in absurd (omega arith))
      (λ b.
      let n : k + suc j ≡ k + 1 + j = omega arith in
      let r = enter-found (k + 1) j p l (rw (b, n) at e) in
      (omega (arith, r.0), rw b (ap (λ (x : List Peer). q ∷ x) r.1)))

  -- where it was not, it is entered at the end
  enter-new : (k : ℕ) (l : List Peer) → seek h.mi k l ≡ None → enter_list h proves time l ≡ l ++ (updated blank_peer h proves time ∷ [])
  enter-new k [] e = refl
  enter-new k (q ∷ l) e =
      by_cases (mi_same h.mi q.mi)
      (λ b. found-missing _ (rw b at e))
      (λ b. rw b (ap (λ (x : List Peer). q ∷ x) (enter-new (k + 1) l (rw b at e))))

  -- another identifier's entry and place stay
  seek-other : (m : Mi) (k : ℕ) (l : List Peer) → mi_same m h.mi ≡ false → seek m k (enter_list h proves time l) ≡ seek m k l
  unfolding updated
  seek-other m k [] d = rw d
  seek-other m k (p ∷ l) d =
      by_cases (mi_same h.mi p.mi)
      (λ b. let f : mi_same m p.mi ≡ false = ap (mi_same m) (sym (same-eq h.mi p.mi b)) ∙ d in rw (b, d, f))
      (λ b. rw (b, seek-other m (k + 1) l d))

  -- the sender's own entry is the updated one
  seek-own : (k : ℕ) (l : List Peer) → (i : ℕ) × (seek h.mi k (enter_list h proves time l) ≡ Some (record { at = i; peer = updated (held_peer (seek h.mi k l)) h proves time }))
  unfolding updated
  seek-own k [] = (k, rw (same_refl h.mi))
  seek-own k (p ∷ l) =
      by_cases (mi_same h.mi p.mi)
      (λ b. (k, rw (b, same_refl h.mi)))
      (λ b. let r = seek-own (k + 1) l in (r.0, rw (b, b) r.1))

  -- ---- the table

  -- a full table without the sender stays as it is
  pub entered-full : (t : Table) → no_room_for (held_in h.mi t) t ≡ true → entered h proves time t ≡ t
  unfolding entered pushed entered_at
  entered-full t full =
      by-held (held_in h.mi t)
      (λ i p e. clash (rw e at full))
      (λ e. let c : leb 16 t.count ≡ true = rw e at full in rw (e, le-ltb t.count 16 (leb-true 16 t.count c)))

  module _ (t : Table) (room-left : no_room_for (held_in h.mi t) t ≡ false) where
    found_at : (i : ℕ) (p : Peer) → held_in h.mi t ≡ Some (record { at = i; peer = p }) → (i < length (entries t)) × (set (entries t) i (updated p h proves time) ≡ enter_list h proves time (entries t))
    unfolding held_in
    found_at i p e = let n : i ≡ 0 + i = omega arith in enter-found 0 i p (entries t) (rw n at e)

    new-at : held_in h.mi t ≡ None → (t.count < 16) × (enter_list h proves time (entries t) ≡ entries t ++ (updated blank_peer h proves time ∷ []))
    unfolding held_in
    new-at e = (leb-false 16 t.count (rw e at room-left), enter-new 0 (entries t) e)

    pub entries-entered : length t.peers ≡ 16 → entries (entered h proves time t) ≡ enter_list h proves time (entries t)
    unfolding entered pushed replaced entered_at
    entries-entered whole =
        by-held (held_in h.mi t)
        (λ i p e.
        let r = found_at i p e in
        let n : i < min t.count 16 = omega (arith, r.0, length-take (min t.count 16) t.peers) in
        rw (e, take-set-lt (min t.count 16) t.peers i (updated p h proves time) n) r.1)
        (λ e.
        let r = new-at e in
        let a : min (t.count + 1) 16 ≡ suc t.count = omega (arith, r.0) in
        let b : min t.count 16 ≡ t.count = omega (arith, r.0) in
        let w : t.count < length t.peers = omega (arith, r.0) in
        rw (e, lt-ltb t.count 16 r.0, a, take-suc-set t.peers t.count (updated blank_peer h proves time) w)
        (ap (λ (k : ℕ). take k t.peers ++ (updated blank_peer h proves time ∷ [])) (sym b) ∙ sym r.1))

    pub entered-tidy : Tidy t → entered h proves time t ≡ table_of (enter_list h proves time (entries t))
    unfolding entered entered_at
    entered-tidy tidy =
        by-held (held_in h.mi t)
        (λ i p e.
        let r = found_at i p e in
        rw e (ap (entered_at (Some (record { at = i; peer = p })) h proves time) tidy ∙ set-table_of (entries t) i (updated p h proves time) r.0 ∙ ap table_of r.1))
        (λ e.
        let r = new-at e in
        let x = updated blank_peer h proves time in
        let c : t.count ≡ length (entries t) = ap (λ (u : Table). u.count) tidy in
        rw e (ap (λ (u : Table). pushed u x) tidy ∙ pushed-table_of (entries t) x (omega (arith, r.0)) ∙ ap table_of (sym r.1)))

  pub tidy-entered : (t : Table) → Tidy t → Tidy (entered h proves time t)
  tidy-entered t tidy =
      by_cases (no_room_for (held_in h.mi t) t)
      (λ full. rw (entered-full t full) tidy)
      (λ room-left.
      let e = entries-entered t room-left (whole-tidy t tidy) in
      entered-tidy t room-left tidy ∙ ap table_of (sym e))

  -- updating or entering one identifier leaves the others' entries, and their places, as they were
  pub others-entered : (m : Mi) (t : Table) → length t.peers ≡ 16 → mi_same m h.mi ≡ false → held_in m (entered h proves time t) ≡ held_in m t
  unfolding held_in
  others-entered m t whole d =
      by_cases (no_room_for (held_in h.mi t) t)
      (λ full. ap (held_in m) (entered-full t full))
      (λ room-left. ap (seek m 0) (entries-entered t room-left whole) ∙ seek-other m 0 (entries t) d)

  -- and the sender's entry is what the frame makes of the one that was held
  pub own-entered : (t : Table) → length t.peers ≡ 16 → no_room_for (held_in h.mi t) t ≡ false
      → (i : ℕ) × (held_in h.mi (entered h proves time t) ≡ Some (record { at = i; peer = updated (held_peer (held_in h.mi t)) h proves time }))
  unfolding held_in
  own-entered t whole room-left =
      let r = seek-own 0 (entries t) in (r.0, ap (seek h.mi 0) (entries-entered t room-left whole) ∙ r.1)
