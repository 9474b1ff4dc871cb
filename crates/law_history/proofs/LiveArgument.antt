-- Why: the last proof by the table is a proof by the history, and a proof by the history is no later than the last.
use Rattle.std.specs.Prelude.{ℕ, ◌-◌, ◌≤◌, ◌≡◌, refl, Bool, true, false, List, [], ◌∷◌, ◌++◌, Ok}
use Rattle.std.proofs.Common.{ap, sym, subst, ◌∙◌, arith, ltb-true, lt-ltb}
use mathlib.Core.List.Memᴰ
use Rattle.std.specs.Prelude.{Option, None, Some}
use Rattle.base_mi.specs.Mi.{mi_same}
use Rattle.base_mi.specs.declared.Mi.{Mi}
use Rattle.table_expiry.specs.Expiry.{life_time, fresh_at}
use Rattle.law_kept.specs.Proved.{aged_proof, is_some}
use Rattle.law_lists.proofs.Laws.{by_cases, never, clash, both, first-of, second-of}
use Rattle.law_kept.specs.Same.{same-eq, same_refl}
use Rattle.call_judge.specs.Judge.{basic_in}
use Rattle.call_hearing.specs.Proof.{window}
use Rattle.law_history.specs.Calls.{Creation, created, Call, receives, sends, distributes, ticks, renews, reports, asks, saves, after, accepted, identifier, NoneTaken}
use Rattle.law_history.specs.Steps.{accepted-none}
use Rattle.law_history.proofs.Becomes.{proves, not-before}
use Rattle.law_history.proofs.Splits.{own, made-now, made-before, taken_none, taken-before, taken-after, identifier-kept, identifier-received, identifier-since}
use Rattle.law_history.proofs.ClockArgument.{onward, clock-set}
use Rattle.law_history.proofs.RecentArgument.{recent-exactly}
use Rattle.law_history.proofs.Proving.{proves_of, last_proof, proof_by, live-is}
use Rattle.law_history.specs.Live.{Proof, ProvedLately, is_live_after, LiveExactly}
use Rattle.law_history.proofs.Naming.{proves-has, has-proves}

-- the last proof, at that time or later
record Since (x : Option ℕ) (time : ℕ) : Type 0 where
  at : ℕ
  last : x ≡ Some at
  late : time ≤ at

module _ (k : Creation) (ok : (created k).answer ≡ Ok tt) (m : Mi) where
  -- ---- the last proof is a proof

  extended : (cs : List Call) (c : Call) (at : ℕ) → ((time : ℕ) (x : Mi) → c ≡ renews time x → accepted k cs c ≡ false) → Proof window k cs m at → Proof window k (c ∷ cs) m at
  extended cs c at one p =
      let r = receives at p.verdict p.frame in
      let made = p.made in
      record {
        verdict = p.verdict;
        frame = p.frame;
        made = made-before k cs c r made;
        sender = p.sender;
        since = taken-after k c made.later (r ∷ made.earlier) (λ time x e. ap (λ (l : List Call). accepted k l c) (sym made.split) ∙ one time x e) p.since;
        number = p.number;
        named = Memᴰ.cast (λ i. record { mi = identifier-kept k cs c one i; mn = p.number }) p.named;
        recent = p.recent;
      }

  proof-now : (cs : List Call) (time : ℕ) (verdict : Bool) (frame : List ℕ) → accepted k cs (receives time verdict frame) ≡ true → proves_of (after k cs) m frame ≡ true
      → Proof window k (receives time verdict frame ∷ cs) m time
  proof-now cs time verdict frame e b =
      let p = after k cs in
      let s = first-of (mi_same m (basic_in frame).mi) (proves p frame) b in
      let r = proves-has p frame (second-of (mi_same m (basic_in frame).mi) (proves p frame) b) in
      let ours : identifier k (receives time verdict frame ∷ cs) ≡ p.mi = identifier-received k cs time verdict frame ∙ sym (own k ok cs) in
      record {
        verdict = verdict;
        frame = frame;
        made = made-now k cs (receives time verdict frame) e;
        sender = sym (same-eq m (basic_in frame).mi s);
        since = taken_none k (receives time verdict frame ∷ cs);
        number = r.number;
        named = Memᴰ.cast (λ i. record { mi = ours i; mn = r.number }) r.named;
        recent = (recent-exactly k cs r.number).0 r.recent;
      }

  -- an accepted call either leaves the last proof or is it
  found-by : (cs : List Call) (c : Call) (at : ℕ) → accepted k cs c ≡ true → proof_by (after k cs) m c (last_proof k m cs) ≡ Some at
      → (last_proof k m cs ≡ Some at → Proof window k cs m at) → Proof window k (c ∷ cs) m at
  found-by cs (receives time verdict frame) at e p before =
      by_cases (proves_of (after k cs) m frame)
      (λ b. let t : time ≡ at = cc (rw b at p) in subst (λ (n : ℕ). Proof window k (receives time verdict frame ∷ cs) m n) t (proof-now cs time verdict frame e b))
      (λ b. extended cs (receives time verdict frame) at (λ time x s. never (cc)) (before (rw b at p)))
  found-by cs (sends time latest_pn old_pn out) at e p before = extended cs (sends time latest_pn old_pn out) at (λ time x s. never (cc)) (before p)
  found-by cs (distributes time wrapped) at e p before = extended cs (distributes time wrapped) at (λ time x s. never (cc)) (before p)
  found-by cs (ticks time) at e p before = extended cs (ticks time) at (λ time x s. never (cc)) (before p)
  found-by cs (renews time x) at e p before = never (cc)
  found-by cs (reports mi kn transmit) at e p before = extended cs (reports mi kn transmit) at (λ time x s. never (cc)) (before p)
  found-by cs asks at e p before = extended cs asks at (λ time x s. never (cc)) (before p)
  found-by cs (saves out) at e p before = extended cs (saves out) at (λ time x s. never (cc)) (before p)

  found : (cs : List Call) (at : ℕ) → last_proof k m cs ≡ Some at → Proof window k cs m at
  found [] at p = never (cc)
  found (c ∷ cs) at p =
      by_cases (accepted k cs c)
      (λ e. found-by cs c at e (rw e at p) (found cs at))
      (λ e. extended cs c at (λ time x s. e) (found cs at (rw e at p)))

  -- ---- a proof is no later than the last one

  stays_by : (cs : List Call) (c : Call) (time : ℕ) → accepted k cs c ≡ true → ((t : ℕ) (x : Mi) → c ≡ renews t x → accepted k cs c ≡ false)
      → time ≤ (after k cs).clock → Since (last_proof k m cs) time → Since (proof_by (after k cs) m c (last_proof k m cs)) time
  stays_by cs (receives t verdict frame) time e one h s =
      by_cases (proves_of (after k cs) m frame)
      (λ b. record { at = t; last = rw b; late = omega (arith, not-before (after k cs) (receives t verdict frame) (accepted-none (after k cs) (receives t verdict frame) e)) })
      (λ b. rw b s)
  stays_by cs (sends t latest_pn old_pn out) time e one h s = s
  stays_by cs (distributes t wrapped) time e one h s = s
  stays_by cs (ticks t) time e one h s = s
  stays_by cs (renews t x) time e one h s = clash (sym (one t x refl) ∙ e)
  stays_by cs (reports mi kn transmit) time e one h s = s
  stays_by cs asks time e one h s = s
  stays_by cs (saves out) time e one h s = s

  stays : (time : ℕ) (later earlier : List Call) → time ≤ (after k earlier).clock → NoneTaken k later earlier → Since (last_proof k m earlier) time → Since (last_proof k m (later ++ earlier)) time
  stays time [] earlier h since s = s
  stays time (c ∷ later) earlier h since s =
      let cs = later ++ earlier in
      let r = stays time later earlier h (taken-before k c later earlier since) s in
      let one : (t : ℕ) (x : Mi) → c ≡ renews t x → accepted k cs c ≡ false = λ t x q. ap (accepted k cs) q ∙ since [] later t x (ap (λ (d : Call). d ∷ later) q) in
      by_cases (accepted k cs c)
      (λ e. rw e (stays_by cs c time e one (omega (arith, onward k later earlier)) r))
      (λ e. rw e r)

  proof-then : (earlier : List Call) (time : ℕ) (verdict : Bool) (frame : List ℕ) → accepted k earlier (receives time verdict frame) ≡ true → proves_of (after k earlier) m frame ≡ true
      → Since (last_proof k m (receives time verdict frame ∷ earlier)) time
  proof-then earlier time verdict frame e b = record { at = time; last = rw (e, b); late = omega arith }

  -- ---- both directions

  live-has-proof : (cs : List Call) → is_live_after k cs m ≡ true → ProvedLately life_time window k cs m
  live-has-proof cs e = go (last_proof k m cs) refl (sym (live-is k m cs) ∙ e)
    where
      go : (x : Option ℕ) → last_proof k m cs ≡ x → is_some (aged_proof (after k cs).clock (last_proof k m cs)) ≡ true → ProvedLately life_time window k cs m
      go None p e = clash (rw p at e)
      go (Some at) p e =
          by_cases (fresh_at (after k cs).clock at)
          (λ f. record { time = at; proof = found cs at p; lately = omega (arith, ltb-true ((after k cs).clock - at) life_time f) })
          (λ f. clash (rw (p, f) at e))

  proof-is-live : (cs : List Call) → ProvedLately life_time window k cs m → is_live_after k cs m ≡ true
  proof-is-live cs h =
      let time = h.time in
      let p = h.proof in
      let young = h.lately in
      let c = receives time p.verdict p.frame in
      let made = p.made in
      let q = after k made.earlier in
      let ours : identifier k cs ≡ q.mi =
      ap (identifier k) made.split ∙ identifier-since k made.later (c ∷ made.earlier) p.since
      ∙ identifier-received k made.earlier time p.verdict p.frame ∙ sym (own k ok made.earlier) in
      let has = Memᴰ.cast (λ i. record { mi = sym ours i; mn = p.number }) p.named in
      let shows = has-proves q p.frame (record { number = p.number; named = has; recent = (recent-exactly k made.earlier p.number).1 p.recent }) in
      let sender : mi_same m (basic_in p.frame).mi ≡ true = ap (mi_same m) p.sender ∙ same_refl m in
      let first = proof-then made.earlier time p.verdict p.frame made.done (both _ _ sender shows) in
      let set = clock-set k made.earlier c made.done in
      let r : Since (last_proof k m cs) time = rw made.split (stays time made.later (c ∷ made.earlier) (omega arith) p.since first) in
      let fresh : fresh_at (after k cs).clock r.at ≡ true = lt-ltb ((after k cs).clock - r.at) life_time (omega arith) in
      live-is k m cs ∙ rw (r.last, fresh)

pub live-exactly : LiveExactly
live-exactly k ok m cs = (live-has-proof k ok m cs, proof-is-live k ok m cs)
