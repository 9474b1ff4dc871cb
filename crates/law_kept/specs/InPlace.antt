-- The table gone through once and changed in its place: the fast forms say what looking up and entering say.
use Rattle.std.specs.Prelude.{ℕ, ◌+◌, ◌≤◌, ◌<◌, ◌≡◌, refl, Bool, false, cond, Option, Some, None, List, [], ◌∷◌, length, get_or, set, drop, ltb, slice_get}
use Rattle.std.proofs.Common.{ap, sym, arith, add-one, drop-cons, drop_of_length-le, lt-ltb, leb-false}
use Rattle.std.proofs.lemmas.Option.{slice_get-get_or, same_Some}
use Rattle.base_mi.specs.declared.Mi.{Mi}
use Rattle.base_mi.specs.Mi.{mi_same}
use Rattle.table.specs.declared.Peer.{Peer}
use Rattle.table.specs.declared.Table.{Table}
use Rattle.table_lookup.specs.declared.Held.{Held}
use Rattle.table_enter.specs.declared.Heard.{Heard}
use Rattle.table.specs.Table.{room, blank_peer, entries, pushed}
use Rattle.table_lookup.specs.Look.{seek, held_in, first_at, found_at, no_room_for}
use Rattle.table_enter.specs.Enter.{held_peer, updated, replaced, entered_at}
use Rattle.table_expiry.proofs.Aging.{at-most-16}
use Rattle.law_lists.proofs.Laws.{by_cases, never}
use Rattle.law_kept.specs.Apart.{found-same}
use Rattle.law_kept.specs.Entering.{found-missing}

-- what a list has at a place, and what a table has at the place that was found
abbrev pub held_at : ℕ → Option Peer → Option Held
held_at at None = None
held_at at (Some p) = Some (record { at = at; peer = p })

abbrev pub found_in : Option ℕ → Table → Option Held
found_in None t = None
found_in (Some at) t = held_at at (slice_get (entries t) at)

-- what is found in the end, where `at` was found before place i
abbrev pub sought : Mi → Option ℕ → ℕ → List Peer → Option Held
sought m None i l = seek m i (drop i l)
sought m (Some at) i l = held_at at (slice_get l at)

-- what is found by the way is one of those gone through
pub first_below : (at : Option ℕ) (n i j : ℕ) (m : Mi) (p : Peer) → ((k : ℕ) → at ≡ Some k → k < n) → i < n → first_at at i m p ≡ Some j → j < n
first_below (Some k) n i j m p below lt e = below j e
first_below None n i j m p below lt e =
    by_cases (mi_same m p.mi)
    (λ a. let s = same_Some i j (rw a at e) in omega arith)
    (λ a. let f = rw a at e in never (cc))

-- one turn of the loop that looks up
pub sought-turn : (m : Mi) (at : Option ℕ) (i : ℕ) (l : List Peer) → i < length l
    → sought m (first_at at i m (get_or l i blank_peer)) (i + 1) l ≡ sought m at i l
sought-turn m (Some at) i l h = refl
sought-turn m None i l h =
    rw (drop-cons l i blank_peer h, add-one)
    (by_cases (mi_same m (get_or l i blank_peer).mi) (λ e. rw (e, slice_get-get_or l i blank_peer h)) (λ e. rw e))

-- after its last turn
pub sought-end : (m : Mi) (at : Option ℕ) (i : ℕ) (t : Table) → length (entries t) ≤ i → sought m at i (entries t) ≡ found_in at t
sought-end m (Some at) i t h = refl
sought-end m None i t h = rw (drop_of_length-le (entries t) h)

-- and so does `found`, handed the entry there
pub found-sought : (m : Mi) (at : Option ℕ) (i : ℕ) (t : Table) (p : Peer) → length (entries t) ≤ i → ((k : ℕ) → at ≡ Some k → slice_get (entries t) k ≡ Some p)
    → sought m at i (entries t) ≡ found_at at p
found-sought m (Some at) i t p h there = rw (there at refl)
found-sought m None i t p h there = sought-end m None i t h

-- what looking up finds stands in the table: its place is one of the 16
seek-fits : (m : Mi) (k : ℕ) (l : List Peer) (h : Held) → seek m k l ≡ Some h → h.at < k + length l
seek-fits m k [] h e = found-missing h (sym e)
seek-fits m k (p ∷ l) h e =
    by_cases (mi_same m p.mi)
    (λ a. let s : k ≡ h.at = ap (λ (g : Held). g.at) (found-same (rw a at e)) in omega arith)
    (λ a. omega (arith, seek-fits m (k + 1) l h (rw a at e)))

pub held_fits : (m : Mi) (t : Table) (h : Held) → held_in m t ≡ Some h → h.at < 16
unfolding held_in
held_fits m t h e = omega (arith, seek-fits m 0 (entries t) h e, at-most-16 t)

-- Entering as one store: where the entry goes, and how many there are then.
abbrev pub place_for : Option Held → ℕ → ℕ
place_for (Some h) count = h.at
place_for None count = count

abbrev pub grown_by : Option Held → ℕ → ℕ
grown_by (Some h) count = count
grown_by None count = cond (ltb count room) (count + 1) count

-- the entry is stored in one place, and the count is that of `grown_by`
pub in_place : (held : Option Held) (h : Heard) (proves : Bool) (time : ℕ) (t : Table) → no_room_for held t ≡ false
    → entered_at held h proves time t
    ≡ record { peers = set t.peers (place_for held t.count) (updated (held_peer held) h proves time); count = grown_by held t.count }
unfolding entered_at replaced pushed
in_place (Some old) h proves time t e = refl
in_place None h proves time t e = rw (lt-ltb t.count 16 (leb-false 16 t.count e))

-- and that place is one of the 16
fits-of : (held : Option Held) (t : Table) → ((h : Held) → held ≡ Some h → h.at < 16) → no_room_for held t ≡ false → place_for held t.count < 16
fits-of (Some h) t f e = f h refl
fits-of None t f e = leb-false 16 t.count e

pub place_fits : (m : Mi) (t : Table) → no_room_for (held_in m t) t ≡ false → place_for (held_in m t) t.count < 16
place_fits m t e = fits-of (held_in m t) t (held_fits m t) e
