-- Why: the numbers sent count down from MN to 1, and the last four of those are what the library takes for recent.
use Rattle.std.specs.Prelude.{ℕ, zero, suc, ◌+◌, ◌-◌, ◌≤◌, ◌<◌, ◌≡◌, refl, true, not, ◌&&◌, length, take, leb, eqb}
use Rattle.std.proofs.Common.{ap, sym, ◌∙◌, ⊎_elim, arith}
use mathlib.Core.List.Memᴰ
use mathlib.Core.List.{List, [], ◌∷◌, Memᴰ}
use Rattle.std.proofs.Math.Dec.{ltb}
use borrow.Author.Tests.{not-true, eqb-true, eqb-false, ne_eqb, leb-true, le-leb, ltb-true, lt-ltb}
use Rattle.law_lists.proofs.Laws.{by_cases, first-of, second-of}
use Rattle.participant.specs.declared.Participant.{Participant}
use Rattle.participant.specs.First.{NoneHolds}
use Rattle.law_calls.specs.FieldsArgument.{create-empty}
use Rattle.law_calls.specs.Passed.{send-passed}
use Rattle.call_hearing.specs.Proof.{window, is_recent}
use Rattle.law_history.specs.Calls.{Creation, created, Call, receives, sends, distributes, ticks, renews, reports, asks, saves, after, accepts, wrote, numbers_sent}
use Rattle.law_history.specs.Steps.{facts, becomes, accepted-none}
use Rattle.law_history.proofs.Becomes.{counted, effect}
use Rattle.law_history.proofs.Splits.{carry}
use Rattle.law_history.proofs.Written.{number-sent}
use Rattle.law_history.specs.Recent.{Recent, countdown, NumbersCount, RecentExactly}

-- ---- the numbers sent count down from MN to 1

-- fact 14: MN stays in its 32 bits
counted-below : (p : Participant) (c : Call) → NoneHolds (facts p c) → p.mn ≤ 4294967295 → counted c p.mn ≤ 4294967295
counted-below p (receives time verdict frame) h le = le
counted-below p (sends time latest_pn old_pn out) h le = let ne = eqb-false p.mn 4294967295 (send-passed p time latest_pn old_pn (length out) h).mn in omega arith
counted-below p (distributes time wrapped) h le = le
counted-below p (ticks time) h le = le
counted-below p (renews time m) h le = omega arith
counted-below p (reports m kn transmit) h le = le
counted-below p asks h le = le
counted-below p (saves out) h le = le

wrote-counts : (p : Participant) (c : Call) → accepts p c ≡ true → p.mn ≤ 4294967295 → wrote p c (countdown p.mn) ≡ countdown (counted c p.mn)
wrote-counts p (receives time verdict frame) e le = refl
wrote-counts p (sends time latest_pn old_pn out) e le =
    let n : p.mn + 1 ≡ suc p.mn = omega arith in
    ap (λ (x : ℕ). x ∷ countdown p.mn) (number-sent p time latest_pn old_pn out le e ∙ n) ∙ ap countdown (sym n)
wrote-counts p (distributes time wrapped) e le = refl
wrote-counts p (ticks time) e le = refl
wrote-counts p (renews time m) e le = refl
wrote-counts p (reports m kn transmit) e le = refl
wrote-counts p asks e le = refl
wrote-counts p (saves out) e le = refl

-- MN is the number of the last frame sent
abbrev Counts : Participant → List ℕ → Type 0
Counts p ns = (p.mn ≤ 4294967295) × (ns ≡ countdown p.mn)

counts-becomes : (p : Participant) (c : Call) (ns : List ℕ) → accepts p c ≡ true → Counts p ns → Counts (becomes p c) (wrote p c ns)
counts-becomes p c ns e h =
    rw (effect p c).mn (counted-below p c (accepted-none p c e) h.0, ap (wrote p c) h.1 ∙ wrote-counts p c e h.0)

counts_start : (k : Creation) → Counts (created k).participant []
unfolding created
counts_start k =
    rw (create-empty k.time k.mi k.sci k.priority k.capability k.desired k.ckn).0.mn (omega arith, refl)

pub counts : (k : Creation) (cs : List Call) → Counts (after k cs) (numbers_sent k cs)
counts k cs = carry k wrote [] Counts (counts_start k) counts-becomes cs

pub numbers-count : NumbersCount
numbers-count k cs = (counts k cs).1

-- ---- the last so many of them

last-are : (j n x : ℕ) → Memᴰ x (take j (countdown n)) → (0 < x) × (x ≤ n) × (n - x < j)
last-are zero n x m = absurd (Memᴰ.not-nil m)
last-are (suc j) zero x m = absurd (Memᴰ.not-nil m)
last-are (suc j) (suc n) x m =
    ⊎_elim
    (λ e. (omega arith, omega arith, omega arith))
    (λ m'. let r = last-are j n x m' in (r.0, omega (arith, r.1), omega (arith, r.1, r.2)))
    (Memᴰ.cases_cons m)

are-last : (j n x : ℕ) → 0 < x → x ≤ n → n - x < j → Memᴰ x (take j (countdown n))
are-last zero n x a b d = absurd (omega arith)
are-last (suc j) zero x a b d = absurd (omega arith)
are-last (suc j) (suc n) x a b d =
    by_cases (eqb x (suc n))
    (λ e. Memᴰ.head (eqb-true x (suc n) e))
    (λ e. let ne = eqb-false x (suc n) e in Memᴰ.tail (are-last j n x a (omega arith) (omega arith)))

module _ (k : Creation) (cs : List Call) (n : ℕ) where
  recent-sent : is_recent n (after k cs).mn ≡ true → Recent window n (numbers_sent k cs)
  unfolding is_recent
  recent-sent e =
      let last = (after k cs).mn in
      let some = eqb-false n 0 (not-true (eqb n 0) (first-of (not (eqb n 0)) (leb n last && ltb (last - n) 4) e)) in
      let r = second-of (not (eqb n 0)) (leb n last && ltb (last - n) 4) e in
      let le = leb-true n last (first-of (leb n last) (ltb (last - n) 4) r) in
      let lt = ltb-true (last - n) 4 (second-of (leb n last) (ltb (last - n) 4) r) in
      rw (numbers-count k cs) (are-last window last n (omega arith) le (omega arith))

  sent-recent : Recent window n (numbers_sent k cs) → is_recent n (after k cs).mn ≡ true
  unfolding is_recent
  sent-recent m =
      let last = (after k cs).mn in
      let r = last-are window last n (rw (numbers-count k cs) at m) in
      let some : n ≡ 0 → ⊥ = omega (arith, r.0) in
      rw (ne_eqb n 0 some, le-leb n last r.1, lt-ltb (last - n) 4 (omega (arith, r.2)))

pub recent-exactly : RecentExactly
recent-exactly k cs n = (recent-sent k cs n, sent-recent k cs n)
