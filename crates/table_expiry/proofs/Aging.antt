-- Expiry, as a law of the list of entries.
use Prim.Native.Nat.{ℕ, zero, suc, ◌+◌, ◌-◌, ◌≤◌, min}
use mathlib.Core.Path.{◌≡◌, refl, ap, sym, ◌∙◌}
use mathlib.Core.Bool.{true, false, not}
use mathlib.Core.List.{List, [], ◌∷◌, ◌++◌, append_assoc, append-nil}
use native.Mathlib.Omega.{arith}
use lib.ListN.{length, take, drop, replicate, length-take, replicate-append-replicate}
use lib.Seq.{take_at, drop_at}
use borrow.Author.Tests.{ltb-false, le-ltb, lt-ltb, not-true}
use Rattle.table.specs.declared.Peer.{Peer}
use Rattle.table.specs.declared.Table.{Table}
use Rattle.law_lists.specs.Lists.{those, pad}
use Rattle.table.specs.Table.{room, blank_peer, entries, table_of, empty_table}
use Rattle.table_expiry.specs.Expiry.{life_time, fresh_at, fresh_peer, lapsed, unproven, aged_peer, aged_list, still_peer, steady_in, refilled, expired}
use Rattle.table_expiry.specs.Kept.{Tidy}
use Rattle.law_lists.proofs.Laws.{by_cases, first-of, second-of, length-those, length-of-map, length-pad, take-pad}

-- ---- lists

-- room past a list, in two parts
pub pad-more : (n k : ℕ) (d : Peer) (l : List Peer) → length l ≤ k → k ≤ n → pad k d l ++ replicate (n - k) d ≡ pad n d l
pad-more n k d l h g =
    let e : k - length l + (n - k) ≡ n - length l = omega arith in
    append_assoc l (replicate (k - length l) d) (replicate (n - k) d)
    ∙ ap (λ (r : List Peer). l ++ r) (replicate-append-replicate (k - length l) (n - k) d ∙ ap (λ (j : ℕ). replicate j d) e)

-- ---- the table of a list

pub at-most-16 : (t : Table) → length (entries t) ≤ 16
at-most-16 t = omega (arith, length-take (min t.count room) t.peers)

pub length-entries : (t : Table) → length t.peers ≡ 16 → length (entries t) ≡ min t.count room
length-entries t whole = omega (arith, length-take (min t.count room) t.peers)

pub entries-table_of : (l : List Peer) → length l ≤ 16 → entries (table_of l) ≡ l
entries-table_of l h = let e : min (length l) 16 ≡ length l = omega arith in rw e (take-pad 16 blank_peer l)

pub tidy-table_of : (l : List Peer) → length l ≤ 16 → Tidy (table_of l)
tidy-table_of l h = ap table_of (sym (entries-table_of l h))

-- blank slots past the count: 16 slots, and the count is that of the entries
pub whole-tidy : (t : Table) → Tidy t → length t.peers ≡ 16
whole-tidy t tidy = ap (λ (u : Table). length u.peers) tidy ∙ length-pad 16 blank_peer (entries t) (at-most-16 t)

pub count-tidy : (t : Table) → Tidy t → t.count ≡ length (entries t)
count-tidy t tidy = ap (λ (u : Table). u.count) tidy

pub taken_again : (m : ℕ) (l : List Peer) → take (length (take m l)) l ≡ take m l
taken_again zero l = refl
taken_again (suc m) [] = refl
taken_again (suc m) (p ∷ l) = ap (λ (r : List Peer). p ∷ r) (taken_again m l)

-- the table with the number of its entries as its count
abbrev pub counted : Table → Table
counted t = record { peers = t.peers; count = length (entries t) }

pub entries-counted : (t : Table) → entries (counted t) ≡ entries t
entries-counted t =
    let e : min (length (entries t)) 16 ≡ length (entries t) = omega (arith, at-most-16 t) in
    rw (e, taken_again (min t.count room) t.peers)

pub entries-empty : entries empty_table ≡ []
unfolding empty_table
entries-empty = refl

-- ---- an entry

-- what is old stays old
pub old-later : (clock time at : ℕ) → clock ≤ time → fresh_at clock at ≡ false → fresh_at time at ≡ false
old-later clock time at h e = le-ltb (time - at) life_time (omega (arith, ltb-false (clock - at) life_time e))

-- and what came no later is old too
pub old-before : (time n at : ℕ) → at ≤ n → fresh_at time n ≡ false → fresh_at time at ≡ false
old-before time n at h e = le-ltb (time - at) life_time (omega (arith, ltb-false (time - n) life_time e))

-- what happens now is fresh
pub fresh-now : (time : ℕ) → fresh_at time time ≡ true
fresh-now time = lt-ltb (time - time) life_time (omega arith)

pub lapsed-later : (clock time : ℕ) (p : Peer) → clock ≤ time → lapsed clock p ≡ true → lapsed time p ≡ true
lapsed-later clock time p h e =
    let f = not-true (fresh_at clock p.proof) (second-of p.proven (not (fresh_at clock p.proof)) e) in
    rw (first-of p.proven (not (fresh_at clock p.proof)) e, old-later clock time p.proof h f)

-- a field that losing the proof leaves, ageing leaves
pub aged-same {ℓ} : {B : Type ℓ} (f : Peer → B) (time : ℕ) (p : Peer) → f (unproven p) ≡ f p → f (aged_peer time p) ≡ f p
aged-same f time p e = by_cases (lapsed time p) (λ h. rw h e) (λ h. rw h)

aged-twice : (clock time : ℕ) (p : Peer) → clock ≤ time → aged_peer time (aged_peer clock p) ≡ aged_peer time p
aged-twice clock time p h =
    by_cases (lapsed clock p) (λ e. rw (e, lapsed-later clock time p h e)) (λ e. rw e)

-- ---- the list

pub length-aged : (time : ℕ) (l : List Peer) → length (aged_list time l) ≤ length l
length-aged time l = omega (arith, length-of-map (aged_peer time) (those (fresh_peer time) l), length-those (fresh_peer time) l)

pub steady-aged : (time : ℕ) (l : List Peer) → steady_in time l ≡ true → aged_list time l ≡ l
steady-aged time [] e = refl
steady-aged time (p ∷ l) e =
    let s = first-of (still_peer time p) (steady_in time l) e in
    let f = first-of (fresh_peer time p) (not (lapsed time p)) s in
    let k = not-true (lapsed time p) (second-of (fresh_peer time p) (not (lapsed time p)) s) in
    rw (f, k, steady-aged time l (second-of (still_peer time p) (steady_in time l) e))

-- expiry at a later time after an earlier one is expiry at the later
pub aged-later : (clock time : ℕ) (l : List Peer) → clock ≤ time → aged_list time (aged_list clock l) ≡ aged_list time l
aged-later clock time [] h = refl
aged-later clock time (p ∷ l) h =
    let r = aged-later clock time l h in
    by_cases (fresh_peer clock p)
    (λ a.
    let k = aged-same (λ (q : Peer). q.accepted) clock p refl in
    by_cases (fresh_peer time p)
    (λ b. rw (a, k, b, aged-twice clock time p h, r))
    (λ b. rw (a, k, b, r)))
    (λ a. rw (a, old-later clock time p.accepted h a, r))

-- ---- other entries in the place of a table's own

pub entries-refilled : (t : Table) (l : List Peer) → length l ≤ length (entries t) → entries (refilled t l) ≡ l
entries-refilled t l h =
    let e : min (length l) 16 ≡ length l = omega (arith, at-most-16 t) in
    rw (e, append_assoc) (take_at l _ (length l) refl)

taken_and_dropped : (m : ℕ) (l : List Peer) → take m l ++ drop (length (take m l)) l ≡ l
taken_and_dropped zero l = refl
taken_and_dropped (suc m) [] = refl
taken_and_dropped (suc m) (p ∷ l) = ap (λ (r : List Peer). p ∷ r) (taken_and_dropped m l)

-- with its own it is the same
refilled_own : (t : Table) → refilled t (entries t) ≡ counted t
refilled_own t =
    let none : length (entries t) - length (entries t) ≡ 0 = omega arith in
    rw (none, append-nil, taken_and_dropped (min t.count room) t.peers)

-- with fewer, and then fewer again
refilled-twice : (t : Table) (l m : List Peer) → length l ≤ length (entries t) → length m ≤ length l → refilled (refilled t l) m ≡ refilled t m
refilled-twice t l m h g =
    let past = drop (length (entries t)) t.peers in
    let more = ap (λ (r : List Peer). r ++ past) (pad-more (length (entries t)) (length l) blank_peer m g h) in
    let from : drop (length l) (pad (length (entries t)) blank_peer l ++ past) ≡ replicate (length (entries t) - length l) blank_peer ++ past = rw append_assoc (drop_at l _ (length l) refl) in
    ap (λ (e : List Peer). record { peers = pad (length e) blank_peer m ++ drop (length e) (refilled t l).peers; count = length m }) (entries-refilled t l h)
    ∙ ap (λ (r : List Peer). record { peers = r; count = length m }) (ap (λ (r : List Peer). pad (length l) blank_peer m ++ r) from ∙ sym (append_assoc (pad (length l) blank_peer m) (replicate (length (entries t) - length l) blank_peer) past) ∙ more)

-- blank slots past the count stay blank
refilled-tidy : (t : Table) (l : List Peer) → length l ≤ length (entries t) → Tidy t → refilled t l ≡ table_of l
refilled-tidy t l h tidy =
    let past : drop (length (entries t)) t.peers ≡ replicate (16 - length (entries t)) blank_peer = ap (λ (u : Table). drop (length (entries t)) u.peers) tidy ∙ drop_at (entries t) _ (length (entries t)) refl in
    ap (λ (r : List Peer). record { peers = r; count = length l })
    (ap (λ (r : List Peer). pad (length (entries t)) blank_peer l ++ r) past ∙ pad-more 16 (length (entries t)) blank_peer l h (at-most-16 t))

-- ---- the table

pub entries-expired : (time : ℕ) (t : Table) → entries (expired time t) ≡ aged_list time (entries t)
unfolding expired
entries-expired time t = entries-refilled t (aged_list time (entries t)) (length-aged time (entries t))

-- a table in which nothing expires comes back as it is, with the number of its entries as its count
pub expired-steady : (time : ℕ) (t : Table) → steady_in time (entries t) ≡ true → expired time t ≡ counted t
unfolding expired
expired-steady time t e = ap (refilled t) (steady-aged time (entries t) e) ∙ refilled_own t

pub expired-counted : (time : ℕ) (t : Table) → expired time (counted t) ≡ expired time t
unfolding expired
expired-counted time t = ap (λ (l : List Peer). record { peers = pad (length l) blank_peer (aged_list time l) ++ drop (length l) t.peers; count = length (aged_list time l) }) (entries-counted t)

-- of one with blank slots past its count the table of what stays is left
pub expired-tidy : (time : ℕ) (t : Table) → Tidy t → expired time t ≡ table_of (aged_list time (entries t))
unfolding expired
expired-tidy time t h = refilled-tidy t (aged_list time (entries t)) (length-aged time (entries t)) h

pub tidy-expired : (time : ℕ) (t : Table) → Tidy t → Tidy (expired time t)
tidy-expired time t h = expired-tidy time t h ∙ ap table_of (sym (entries-expired time t))

-- and the whole of it where nothing expires
pub expired-still : (time : ℕ) (t : Table) → Tidy t → steady_in time (entries t) ≡ true → expired time t ≡ t
expired-still time t h e = expired-tidy time t h ∙ ap table_of (steady-aged time (entries t) e) ∙ sym h

pub expired-later : (clock time : ℕ) (t : Table) → clock ≤ time → expired time (expired clock t) ≡ expired time t
unfolding expired
expired-later clock time t h =
    let l = aged_list clock (entries t) in
    let e = ap (aged_list time) (entries-refilled t l (length-aged clock (entries t))) ∙ aged-later clock time (entries t) h in
    ap (refilled (refilled t l)) e
    ∙ refilled-twice t l (aged_list time (entries t)) (length-aged clock (entries t)) (rw (← aged-later clock time (entries t) h) (length-aged time l))
