-- When an identifier was last proved, over expiry and entering: what liveness comes from.
use Rattle.std.specs.Prelude.{ℕ, ◌+◌, ◌≤◌, ◌≡◌, refl, Bool, true, false, cond, Option, Some, None, List, [], ◌∷◌, length}
use Rattle.std.proofs.Common.{ap, sym, ◌∙◌, leb-true}
use Rattle.base_mi.specs.declared.Mi.{Mi}
use Rattle.base_mi.specs.Mi.{mi_same}
use Rattle.table.specs.declared.Peer.{Peer}
use Rattle.table.specs.declared.Table.{Table}
use Rattle.table_lookup.specs.declared.Held.{Held}
use Rattle.table_enter.specs.declared.Heard.{Heard}
use Rattle.law_lists.specs.Lists.{every}
use Rattle.table.specs.Table.{entries}
use Rattle.table_expiry.specs.Expiry.{fresh_at, fresh_peer, aged_peer, aged_list, expired}
use Rattle.table_lookup.specs.Look.{seek, held_in, no_room_for, live_for}
use Rattle.table_enter.specs.Enter.{held_peer, updated, entered}
use Rattle.table_expiry.specs.Kept.{absent, distinct, ordered}
use Rattle.law_kept.specs.Proved.{proved_at, aged_proof, is_some}
use Rattle.law_lists.proofs.Laws.{by_cases, first-of, second-of}
use Rattle.law_kept.specs.Same.{same-eq}
use Rattle.table_expiry.proofs.Aging.{old-later, old-before, aged-same, entries-expired}
use Rattle.law_kept.specs.Entering.{own-entered, others-entered}
use Rattle.law_kept.specs.Keeping.{absent-aged}
use Rattle.law_kept.specs.Apart.{seek-absent}

-- an identifier is Live exactly where it has a proof
pub live-proved : (held : Option Held) → live_for held ≡ is_some (proved_at held)
live-proved (Some h) = by_cases h.peer.proven (λ e. rw e) (λ e. rw e)
live-proved None = refl

-- a proof that is aged to a time and then to a later one
pub proof-later : (clock time : ℕ) (x : Option ℕ) → clock ≤ time → aged_proof time (aged_proof clock x) ≡ aged_proof time x
proof-later clock time None h = refl
proof-later clock time (Some at) h =
    by_cases (fresh_at clock at) (λ e. rw e) (λ e. rw (e, old-later clock time at h e))

-- one entry's proof over expiry
proof-aged : (time j k : ℕ) (p : Peer) → proved_at (Some (record { at = j; peer = aged_peer time p })) ≡ aged_proof time (proved_at (Some (record { at = k; peer = p })))
proof-aged time j k p =
    by_cases p.proven
    (λ a. by_cases (fresh_at time p.proof) (λ b. rw (a, b)) (λ b. rw (a, b)))
    (λ a. rw a)

-- where an entry goes, its proof is old too
proof-gone : (time k : ℕ) (p : Peer) → ordered p ≡ true → fresh_peer time p ≡ false → aged_proof time (proved_at (Some (record { at = k; peer = p }))) ≡ None
proof-gone time k p o f =
    by_cases p.proven
    (λ a.
    let n = leb-true p.proof p.accepted (rw a at o) in
    rw (a, old-before time p.accepted p.proof n f))
    (λ a. rw a)

list-proved : (time j k : ℕ) (m : Mi) (l : List Peer) → distinct l ≡ true → every ordered l ≡ true
    → proved_at (seek m j (aged_list time l)) ≡ aged_proof time (proved_at (seek m k l))
list-proved time j k m [] d o = refl
list-proved time j k m (p ∷ l) d o =
    let a = first-of (absent p.mi l) (distinct l) d in
    let d' = second-of (absent p.mi l) (distinct l) d in
    let o' = second-of (ordered p) (every ordered l) o in
    let mi = aged-same (λ (q : Peer). q.mi) time p refl in
    by_cases (fresh_peer time p)
    (λ f. by_cases (mi_same m p.mi)
    (λ s. rw (f, mi, s) (proof-aged time j k p))
    (λ s. rw (f, mi, s) (list-proved time (j + 1) (k + 1) m l d' o')))
    (λ f. by_cases (mi_same m p.mi)
    (λ s.
    let g = absent-aged m time l (ap (λ (x : Mi). absent x l) (same-eq m p.mi s) ∙ a) in
    rw (f, s) (ap proved_at (seek-absent m j (aged_list time l) g) ∙ sym (proof-gone time k p (first-of (ordered p) (every ordered l) o) f)))
    (λ s. rw (f, s) (list-proved time j (k + 1) m l d' o')))

-- expiry takes just the old proofs
pub proved-expired : (m : Mi) (time : ℕ) (t : Table) → distinct (entries t) ≡ true → every ordered (entries t) ≡ true
    → proved_at (held_in m (expired time t)) ≡ aged_proof time (proved_at (held_in m t))
unfolding held_in
proved-expired m time t d o = ap (λ (l : List Peer). proved_at (seek m 0 l)) (entries-expired time t) ∙ list-proved time 0 0 m (entries t) d o

module _ (h : Heard) (proves : Bool) (time : ℕ) (t : Table) (whole : length t.peers ≡ 16) where
  updated-proved : (i : ℕ) (held : Option Held) → proved_at (Some (record { at = i; peer = updated (held_peer held) h proves time })) ≡ cond proves (Some time) (proved_at held)
  unfolding updated
  updated-proved i (Some old) = by_cases proves (λ b. rw b) (λ b. rw b)
  updated-proved i None = by_cases proves (λ b. rw b) (λ b. rw b)

  -- a frame that proves sets its sender's proof, and any other leaves it
  pub proved-own : no_room_for (held_in h.mi t) t ≡ false → proved_at (held_in h.mi (entered h proves time t)) ≡ cond proves (Some time) (proved_at (held_in h.mi t))
  proved-own room-left =
      let r = own-entered h proves time t whole room-left in ap proved_at r.1 ∙ updated-proved r.0 (held_in h.mi t)

  -- and leaves everybody else's
  pub proved-other : (m : Mi) → mi_same m h.mi ≡ false → proved_at (held_in m (entered h proves time t)) ≡ proved_at (held_in m t)
  proved-other m d = ap proved_at (others-entered h proves time m t whole d)
