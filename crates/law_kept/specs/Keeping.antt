-- What expiry and entering keep of the entries, and what expiry brings about.
use Rattle.std.specs.Prelude.{ℕ, ◌≤◌, ◌≡◌, false, ◌&&◌, Option, eqb}
use Rattle.std.proofs.Math.Path.{refl}
use Rattle.std.proofs.Common.{ap, sym, ◌∙◌, arith}
use Rattle.std.proofs.Math.Bool.{Bool, true, not}
use mathlib.Core.List.{List, [], ◌∷◌}
use Rattle.std.proofs.Math.Dec.{leb}
use borrow.Author.Tests.{leb-true, le-leb}
use Rattle.base_mi.specs.declared.Mi.{Mi}
use Rattle.base_mi.specs.Mi.{mi_same}
use Rattle.table.specs.declared.Peer.{Peer}
use Rattle.table.specs.declared.Table.{Table}
use Rattle.table_lookup.specs.declared.Held.{Held}
use Rattle.table_enter.specs.declared.Heard.{Heard}
use Rattle.law_lists.specs.Lists.{every}
use Rattle.table.specs.Table.{blank_peer, entries, empty_table}
use Rattle.table_expiry.specs.Expiry.{fresh_at, fresh_peer, lapsed, unproven, aged_peer, aged_list, steady_in, expired}
use Rattle.table_lookup.specs.Look.{held_in, stale_for, no_room_for}
use Rattle.table_enter.specs.Enter.{updated, enter_list, entered}
use Rattle.table_expiry.specs.Kept.{unproven_zero, timely, fresh_proof, ordered, absent, distinct, has_number, peer_rules, Kept}
use Rattle.law_lists.proofs.Laws.{by_cases, clash, both, first-of, second-of}
use Rattle.law_kept.specs.Same.{same-eq, same-sym}
use Rattle.table_expiry.proofs.Rules.{together, kept-rules}
use Rattle.table_expiry.proofs.Aging.{whole-tidy, fresh-now, aged-same, entries-expired, tidy-expired, expired-still}
use Rattle.law_kept.specs.Entering.{entries-entered, tidy-entered}

-- ---- a test of each entry, over expiry and over entering

pub every-both : (f g : Peer → Bool) (l : List Peer) → every f l ≡ true → every g l ≡ true → every (λ (p : Peer). f p && g p) l ≡ true
every-both f g [] a b = refl
every-both f g (p ∷ l) a b =
    rw (first-of (f p) (every f l) a, first-of (g p) (every g l) b)
    (every-both f g l (second-of (f p) (every f l) a) (second-of (g p) (every g l) b))

pub every-aged : (f g : Peer → Bool) (time : ℕ) → ((p : Peer) → fresh_peer time p ≡ true → f p ≡ true → g (aged_peer time p) ≡ true)
    → (l : List Peer) → every f l ≡ true → every g (aged_list time l) ≡ true
every-aged f g time step [] e = refl
every-aged f g time step (p ∷ l) e =
    let r = every-aged f g time step l (second-of (f p) (every f l) e) in
    by_cases (fresh_peer time p) (λ a. rw (a, step p a (first-of (f p) (every f l) e)) r) (λ a. rw a r)

-- where a test goes by what losing the proof leaves
every-kept : (f : Peer → Bool) (time : ℕ) → ((p : Peer) → f (unproven p) ≡ f p) → (l : List Peer) → every f l ≡ true → every f (aged_list time l) ≡ true
every-kept f time same l e = every-aged f f time (λ p a t. aged-same f time p (same p) ∙ t) l e

module _ (h : Heard) (proves : Bool) (time : ℕ) where
  pub every-entered : (f g : Peer → Bool) → ((p : Peer) → f p ≡ true → g p ≡ true) → g (updated blank_peer h proves time) ≡ true
      → ((p : Peer) → f p ≡ true → g (updated p h proves time) ≡ true) → (l : List Peer) → every f l ≡ true → every g (enter_list h proves time l) ≡ true
  every-entered f g keep new old [] e = rw new
  every-entered f g keep new old (p ∷ l) e =
      let a = first-of (f p) (every f l) e in
      let b = second-of (f p) (every f l) e in
      by_cases (mi_same h.mi p.mi)
      (λ s. rw (s, old p a) (rest l b))
      (λ s. rw (s, keep p a) (every-entered f g keep new old l b))
    where
      rest : (l : List Peer) → every f l ≡ true → every g l ≡ true
      rest [] e = refl
      rest (p ∷ l) e = rw (keep p (first-of (f p) (every f l) e)) (rest l (second-of (f p) (every f l) e))

-- ---- never ours stays never ours, distinct stays distinct

pub absent-aged : (m : Mi) (time : ℕ) (l : List Peer) → absent m l ≡ true → absent m (aged_list time l) ≡ true
absent-aged m time l e = every-kept (λ (p : Peer). not (mi_same m p.mi)) time (λ p. refl) l e

pub distinct-aged : (time : ℕ) (l : List Peer) → distinct l ≡ true → distinct (aged_list time l) ≡ true
distinct-aged time [] e = refl
distinct-aged time (p ∷ l) e =
    let a = absent-aged p.mi time l (first-of (absent p.mi l) (distinct l) e) in
    let r = distinct-aged time l (second-of (absent p.mi l) (distinct l) e) in
    by_cases (fresh_peer time p)
    (λ f. rw f (both _ _ (ap (λ (m : Mi). absent m (aged_list time l)) (aged-same (λ (q : Peer). q.mi) time p refl) ∙ a) r))
    (λ f. rw f r)

-- ---- numbers, times and proofs over expiry

pub numbered-aged : (time : ℕ) (l : List Peer) → every has_number l ≡ true → every has_number (aged_list time l) ≡ true
numbered-aged time l e = every-kept has_number time (λ p. refl) l e

pub timely-aged : (clock time : ℕ) (l : List Peer) → clock ≤ time → every (timely clock) l ≡ true → every (timely time) (aged_list time l) ≡ true
timely-aged clock time l h e = every-aged (timely clock) (timely time) time (λ p a t. one p t) l e
  where
    later : (n : ℕ) → leb n clock ≡ true → leb n time ≡ true
    later n t = le-leb n time (omega (arith, leb-true n clock t))

    one : (p : Peer) → timely clock p ≡ true → timely time (aged_peer time p) ≡ true
    one p t =
        let a = later p.accepted (first-of (leb p.accepted clock) (leb p.proof clock) t) in
        by_cases (lapsed time p)
        (λ b. rw b (both _ _ a (le-leb 0 time (omega arith))))
        (λ b. rw b (both _ _ a (later p.proof (second-of (leb p.accepted clock) (leb p.proof clock) t))))

every_true : (l : List Peer) → every (λ (p : Peer). true) l ≡ true
every_true [] = refl
every_true (p ∷ l) = every_true l

-- after expiry each frame and each proof is less than a life time old
pub fresh-aged : (time : ℕ) (l : List Peer) → every (fresh_peer time) (aged_list time l) ≡ true
fresh-aged time l =
    every-aged (λ (p : Peer). true) (fresh_peer time) time (λ p a t. aged-same (fresh_peer time) time p refl ∙ a) l (every_true l)

pub fresh_proof-aged : (time : ℕ) (l : List Peer) → every (fresh_proof time) (aged_list time l) ≡ true
fresh_proof-aged time l = every-aged (λ (p : Peer). true) (fresh_proof time) time (λ p a t. one p) l (every_true l)
  where
    one : (p : Peer) → fresh_proof time (aged_peer time p) ≡ true
    one p =
        by_cases p.proven
        (λ a. by_cases (fresh_at time p.proof) (λ b. rw (a, b) b) (λ b. rw (a, b)))
        (λ a. rw a)

pub unproven-aged : (time : ℕ) (l : List Peer) → every unproven_zero l ≡ true → every unproven_zero (aged_list time l) ≡ true
unproven-aged time l e = every-aged unproven_zero unproven_zero time (λ p a t. by_cases (lapsed time p) (λ b. rw b) (λ b. rw b t)) l e

pub ordered-aged : (time : ℕ) (l : List Peer) → every ordered l ≡ true → every ordered (aged_list time l) ≡ true
ordered-aged time l e = every-aged ordered ordered time (λ p a t. by_cases (lapsed time p) (λ b. rw b) (λ b. rw b t)) l e

-- ---- and over entering

module _ (h : Heard) (proves : Bool) (time : ℕ) where
  pub absent-entered : (m : Mi) (l : List Peer) → mi_same m h.mi ≡ false → absent m l ≡ true → absent m (enter_list h proves time l) ≡ true
  unfolding updated
  absent-entered m l d e =
      let f : Peer → Bool = λ p. not (mi_same m p.mi) in every-entered h proves time f f (λ p t. t) (rw d) (λ p t. rw d) l e

  pub distinct-entered : (l : List Peer) → distinct l ≡ true → distinct (enter_list h proves time l) ≡ true
  unfolding updated
  distinct-entered [] e = refl
  distinct-entered (p ∷ l) e =
      let a = first-of (absent p.mi l) (distinct l) e in
      let r = second-of (absent p.mi l) (distinct l) e in
      by_cases (mi_same h.mi p.mi)
      (λ b. rw b (both _ _ (ap (λ (m : Mi). absent m l) (same-eq h.mi p.mi b) ∙ a) r))
      (λ b. rw b (both _ _ (absent-entered p.mi l (same-sym h.mi p.mi b) a) (distinct-entered l r)))

  pub numbered-entered : (l : List Peer) → eqb h.mn 0 ≡ false → every has_number l ≡ true → every has_number (enter_list h proves time l) ≡ true
  unfolding updated
  numbered-entered l z e = every-entered h proves time has_number has_number (λ p t. t) (rw z) (λ p t. rw z) l e

  pub timely-entered : (l : List Peer) → every (timely time) l ≡ true → every (timely time) (enter_list h proves time l) ≡ true
  unfolding updated
  timely-entered l e = every-entered h proves time (timely time) (timely time) (λ p t. t) (one blank_peer (le-leb 0 time (omega arith))) known l e
    where
      one : (p : Peer) → leb p.proof time ≡ true → timely time (updated p h proves time) ≡ true
      one p t =
          let now = le-leb time time (omega arith) in by_cases proves (λ b. rw b (both _ _ now now)) (λ b. rw b (both _ _ now t))

      known : (p : Peer) → timely time p ≡ true → timely time (updated p h proves time) ≡ true
      known p t = one p (second-of (leb p.accepted time) (leb p.proof time) t)

  pub fresh-entered : (l : List Peer) → every (fresh_peer time) l ≡ true → every (fresh_peer time) (enter_list h proves time l) ≡ true
  unfolding updated
  fresh-entered l e =
      every-entered h proves time (fresh_peer time) (fresh_peer time) (λ p t. t) (fresh-now time) (λ p t. fresh-now time) l e

  pub fresh_proof-entered : (l : List Peer) → every (fresh_proof time) l ≡ true → every (fresh_proof time) (enter_list h proves time l) ≡ true
  unfolding updated
  fresh_proof-entered l e = every-entered h proves time (fresh_proof time) (fresh_proof time) (λ p t. t) (one blank_peer refl) one l e
    where
      one : (p : Peer) → fresh_proof time p ≡ true → fresh_proof time (updated p h proves time) ≡ true
      one p t = by_cases proves (λ b. rw b (fresh-now time)) (λ b. rw b t)

  pub unproven-entered : (l : List Peer) → every unproven_zero l ≡ true → every unproven_zero (enter_list h proves time l) ≡ true
  unfolding updated
  unproven-entered l e = every-entered h proves time unproven_zero unproven_zero (λ p t. t) (one blank_peer refl) one l e
    where
      one : (p : Peer) → unproven_zero p ≡ true → unproven_zero (updated p h proves time) ≡ true
      one p t = by_cases proves (λ b. rw b) (λ b. rw b t)

  pub ordered-entered : (l : List Peer) → every (timely time) l ≡ true → every ordered l ≡ true → every ordered (enter_list h proves time l) ≡ true
  unfolding updated
  ordered-entered l u e =
      every-entered h proves time (λ (p : Peer). timely time p && ordered p) ordered
      (λ p t. second-of (timely time p) (ordered p) t)
      (one blank_peer (le-leb 0 time (omega arith)))
      (λ p t. one p (second-of (leb p.accepted time) (leb p.proof time) (first-of (timely time p) (ordered p) t)))
      l
      (every-both (timely time) ordered l u e)
    where
      one : (p : Peer) → leb p.proof time ≡ true → ordered (updated p h proves time) ≡ true
      one p t =
          by_cases proves
          (λ b. rw b (le-leb time time (omega arith)))
          (λ b. rw b (by_cases p.proven (λ s. rw s t) (λ s. rw s)))

-- a frame that fact 11 lets through has a number
pub not-stale : (held : Option Held) (mn : ℕ) → stale_for held mn ≡ false → eqb mn 0 ≡ false
not-stale held mn e = by_cases (eqb mn 0) (λ z. clash (sym e ∙ rw z)) (λ z. z)

-- ---- all of it, of a table

pub kept-empty : (own : Mi) (clock : ℕ) → Kept own clock empty_table
unfolding empty_table peer_rules
kept-empty own clock = record { tidy = refl; rules = refl }

pub kept-expired : (own : Mi) (clock time : ℕ) (t : Table) → clock ≤ time → Kept own clock t → Kept own time (expired time t)
kept-expired own clock time t h k =
    let l = entries t in
    let r = kept-rules k in
    record {
      tidy = tidy-expired time t k.tidy;
      rules = rw (entries-expired time t)
          (together own time (aged_list time l)
          (record {
            zeros = unproven-aged time l r.zeros;
            times = timely-aged clock time l h r.times;
            ages = fresh-aged time l;
            proofs = fresh_proof-aged time l;
            order = ordered-aged time l r.order;
            apart = distinct-aged time l r.apart;
            others = absent-aged own time l r.others;
            numbers = numbered-aged time l r.numbers;
          }));
    }

-- at its clock nothing of it is left to expire
pub kept-still : (own : Mi) (clock : ℕ) (t : Table) → Kept own clock t → expired clock t ≡ t
kept-still own clock t k = let r = kept-rules k in expired-still clock t k.tidy (steady (entries t) r.ages r.proofs)
  where
    one : (p : Peer) → fresh_proof clock p ≡ true → lapsed clock p ≡ false
    one p e = by_cases p.proven (λ a. let f = rw a at e in rw (a, f)) (λ a. rw a)

    steady : (l : List Peer) → every (fresh_peer clock) l ≡ true → every (fresh_proof clock) l ≡ true → steady_in clock l ≡ true
    steady [] a b = refl
    steady (p ∷ l) a b =
        rw (first-of (fresh_peer clock p) (every (fresh_peer clock) l) a, one p (first-of (fresh_proof clock p) (every (fresh_proof clock) l) b))
        (steady l (second-of (fresh_peer clock p) (every (fresh_peer clock) l) a) (second-of (fresh_proof clock p) (every (fresh_proof clock) l) b))

-- of a frame that facts 10, 11 and 12 let through
pub kept-entered : (own : Mi) (h : Heard) (proves : Bool) (time : ℕ) (t : Table)
    → mi_same own h.mi ≡ false → stale_for (held_in h.mi t) h.mn ≡ false → no_room_for (held_in h.mi t) t ≡ false
    → Kept own time t → Kept own time (entered h proves time t)
kept-entered own h proves time t other new room-left k =
    let l = entries t in
    let r = kept-rules k in
    record {
      tidy = tidy-entered h proves time t k.tidy;
      rules = rw (entries-entered h proves time t room-left (whole-tidy t k.tidy))
          (together own time (enter_list h proves time l)
          (record {
            zeros = unproven-entered h proves time l r.zeros;
            times = timely-entered h proves time l r.times;
            ages = fresh-entered h proves time l r.ages;
            proofs = fresh_proof-entered h proves time l r.proofs;
            order = ordered-entered h proves time l r.times r.order;
            apart = distinct-entered h proves time l r.apart;
            others = absent-entered h proves time own l other r.others;
            numbers = numbered-entered h proves time l (not-stale (held_in h.mi t) h.mn new) r.numbers;
          }));
    }
