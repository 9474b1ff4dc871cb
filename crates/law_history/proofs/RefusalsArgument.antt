-- The argument for Refusals: each answer's number is the first fact's that holds.
use Rattle.std.specs.Prelude.{ℕ, ◌≡◌, Bool, true, false, cond, not, List, [], ◌∷◌, ◌++◌, map, ◌↔◌, length, eqb, ltb, Ok}
use Rattle.std.proofs.Math.Path.{refl}
use Rattle.std.proofs.Common.{ap, sym, ◌∙◌, eqb-true, eq-eqb}
use Rattle.std.proofs.Math.Option.{Option, none, some}
use Rattle.std.proofs.lemmas.Bool.{eqb-false, not-true}
use Rattle.base_facts.specs.Facts.{first_of}
use Rattle.base_facts.specs.Refusal.{number_in}
use Rattle.base_facts.proofs.Laws.{known, told_number}
use Rattle.base_octets.specs.Run.{written}
use Rattle.law_lists.proofs.Laws.{by_cases, never, clash, first-of, second-of}
use Rattle.call_tick.specs.Tick.{ticked}
use Rattle.participant.specs.Call.{refused_of}
use Rattle.participant.specs.declared.call.Called.{Called}
use Rattle.participant.specs.declared.Participant.{Participant}
use Rattle.participant.specs.First.{NoneHolds, numbered, First}
use Rattle.participant.proofs.Settle.{first_holds, none-holds, first-number, none_number}
use Rattle.call_new_mi.specs.Renew.{new_mi_of}
use Rattle.call_report.specs.Report.{reported}
use Rattle.call_distribute.specs.Distribute.{distributed_of}
use Rattle.call_judge.specs.Judge.{frame_facts}
use Rattle.call_receive.specs.Receive.{table_facts, receive_facts, received_of}
use Rattle.call_send.specs.Send.{send_facts, sent_of, left_by}
use Rattle.image.specs.Image.{image_of}
use Rattle.law_history.specs.Calls.{Call, receives, sends, distributes, ticks, renews, reports, asks, saves, answer_of, answered, accepts}
use Rattle.law_history.specs.Steps.{facts, facts-numbered, facts-known, accepted-zero, refused-leaves}
use Rattle.law_history.specs.Refusals.{refusal_in, order, lent, left_in, InOrder, RefusedExactly, AcceptedExactly, RefusedSame, RefusedLeft}

-- a number that is no refusal where it is 0
abbrev pub shown : ℕ → Option ℕ
shown n = cond (eqb n 0) none (some n)

-- the fact that a list's number names isn't 0
counted : (earlier later : List (ℕ × Bool)) (n : ℕ) → numbered (earlier ++ ((n, true) ∷ later)) ≡ true → eqb n 0 ≡ false
counted [] later n k = not-true (eqb n 0) (first-of (not (eqb n 0)) (numbered later) k)
counted (f ∷ fs) later n k = counted fs later n (second-of (not (eqb f.0 0)) (numbered (fs ++ ((n, true) ∷ later))) k)

-- what shows the first fact's number shows the first fact that holds
pub exactly : (fs : List (ℕ × Bool)) → numbered fs ≡ true → (n : ℕ) → (shown (first_of fs) ≡ some n) ↔ First fs n
exactly fs k n = (there, back)
  where
    there : shown (first_of fs) ≡ some n → First fs n
    there e =
        by_cases (eqb (first_of fs) 0)
        (λ z. let x : none ≡ some n = rw z at e in never (cc))
        (λ z. let x : some (first_of fs) ≡ some n = rw z at e in
        let same : first_of fs ≡ n = cc in
        rw (sym same) (first_holds fs (eqb-false (first_of fs) 0 z)))

    back : First fs n → shown (first_of fs) ≡ some n
    back f =
        let first : first_of fs ≡ n = ap first_of f.is ∙ first-number f.earlier f.later n f.none in
        let t : eqb n 0 ≡ false = counted f.earlier f.later n (ap numbered (sym f.is) ∙ k) in
        ap shown first ∙ rw t

-- an answer that goes by the first fact's number carries it
pub answer-shows : {A : Type 0} (p q : Participant) (fs : List (ℕ × Bool)) (x : A) → known fs ≡ true
    → let r : Called A = cond (eqb (first_of fs) 0) (record { participant = q; answer = Ok x }) (refused_of p (first_of fs)) in
    number_in r.answer ≡ shown (first_of fs)
answer-shows p q fs x k =
    let t = told_number fs x k in
    by_cases (eqb (first_of fs) 0) (λ e. rw e) (λ e. rw e (rw e at t))

module _ (p : Participant) where
  ordered : (c : Call) → map (λ (f : ℕ × Bool). f.0) (facts p c) ≡ order c
  unfolding receive_facts frame_facts table_facts send_facts
  ordered (receives time verdict frame) = refl
  ordered (sends time latest_pn old_pn out) = refl
  ordered (distributes time wrapped) = refl
  ordered (ticks time) = refl
  ordered (renews time m) = refl
  ordered (reports m kn transmit) = refl
  ordered asks = refl
  ordered (saves out) = refl

  tells : (c : Call) → refusal_in (answer_of p c) ≡ shown (first_of (facts p c))
  unfolding received_of sent_of distributed_of ticked new_mi_of reported
  tells (receives time verdict frame) = let c = receives time verdict frame in answer-shows p _ (facts p c) _ (facts-known p c)
  tells (sends time latest_pn old_pn out) = let c = sends time latest_pn old_pn out in answer-shows p _ (facts p c) _ (facts-known p c)
  tells (distributes time wrapped) = let c = distributes time wrapped in answer-shows p _ (facts p c) _ (facts-known p c)
  tells (ticks time) = let c = ticks time in answer-shows p _ (facts p c) _ (facts-known p c)
  tells (renews time m) = let c = renews time m in answer-shows p _ (facts p c) _ (facts-known p c)
  tells (reports m kn transmit) = let c = reports m kn transmit in answer-shows p _ (facts p c) _ (facts-known p c)
  tells asks = refl
  tells (saves out) = by_cases (ltb (length out) (length (image_of p))) (λ e. rw e) (λ e. rw e)

  refuses : (c : Call) (n : ℕ) → (refusal_in (answer_of p c) ≡ some n) ↔ First (facts p c) n
  refuses c n =
      let t = tells c in
      let r = exactly (facts p c) (facts-numbered p c) n in
      (λ e. r.0 (sym t ∙ e), λ f. t ∙ r.1 f)

  admits : (c : Call) → (refusal_in (answer_of p c) ≡ none) ↔ NoneHolds (facts p c)
  admits c = (there, back)
    where
      there : refusal_in (answer_of p c) ≡ none → NoneHolds (facts p c)
      there e =
          by_cases (eqb (first_of (facts p c)) 0)
          (λ z. none-holds (facts p c) (facts-numbered p c) (eqb-true (first_of (facts p c)) 0 z))
          (λ z. let t = tells c in let x : some (first_of (facts p c)) ≡ none = sym (rw z at t) ∙ e in never (cc))

      back : NoneHolds (facts p c) → refusal_in (answer_of p c) ≡ none
      back h = tells c ∙ ap shown (none_number (facts p c) h)

  -- a refusal's first fact
  first-told : (c : Call) (n : ℕ) → refusal_in (answer_of p c) ≡ some n → eqb (first_of (facts p c)) 0 ≡ false
  first-told c n e = by_cases (eqb (first_of (facts p c)) 0) (λ z. let t = tells c in let x : none ≡ some n = sym (rw z at t) ∙ e in never (cc)) (λ z. z)

  same : (c : Call) (n : ℕ) → refusal_in (answer_of p c) ≡ some n → answered p c ≡ p
  same c n e =
      refused-leaves p c
      (by_cases (accepts p c)
      (λ a. clash (sym (first-told c n e) ∙ eq-eqb (first_of (facts p c)) 0 (accepted-zero p c a)))
      (λ a. a))

  left : (c : Call) (n : ℕ) → refusal_in (answer_of p c) ≡ some n → left_in (answer_of p c) ≡ lent c
  unfolding left_by written
  left (receives time verdict frame) n e = refl
  left (sends time latest_pn old_pn out) n e = rw (first-told (sends time latest_pn old_pn out) n e)
  left (distributes time wrapped) n e = refl
  left (ticks time) n e = refl
  left (renews time m) n e = refl
  left (reports m kn transmit) n e = refl
  left asks n e = refl
  left (saves out) n e =
      by_cases (ltb (length out) (length (image_of p)))
      (λ t. rw t)
      (λ t. let x = first-told (saves out) n e in clash (sym (rw t at x)))

pub in_order : InOrder
in_order = ordered

pub refused-exactly : RefusedExactly
refused-exactly = refuses

pub accepted-exactly : AcceptedExactly
accepted-exactly = admits

pub refused-same : RefusedSame
refused-same = same

pub refused-left : RefusedLeft
refused-left = left
