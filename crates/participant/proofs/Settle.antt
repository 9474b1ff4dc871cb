-- "Numbers of refusal", once for every call: a refusal's number is the first fact's that holds and it changes nothing; a call that is
-- accepted has no fact that holds, and sets the clock.
use Rattle.std.proofs.Common.{ℕ, ◌<◌, ◌≤◌, ◌≡◌, refl, ap, sym, ◌∙◌, List, [], ◌∷◌, ◌++◌, arith}
use Rattle.std.specs.Prelude.{Bool, true, false, not, eqb, Ok, Err}
use borrow.Author.Tests.{eq-eqb, ne_eqb, eqb-true, eqb-false, ltb-false, not-true}
use Rattle.base_facts.specs.Facts.{first_of}
use Rattle.base_facts.specs.Refusal.{number_of, refusal}
use Rattle.base_facts.specs.declared.Refusal.{Refusal}
use Rattle.base_facts.proofs.Laws.{refusal_numbered, number_refused, known, first_known}
use Rattle.law_lists.proofs.Laws.{by_cases, never, clash, first-of, second-of}
use Rattle.participant.specs.First.{NoneHolds, numbered, First}
use Rattle.participant.specs.declared.Participant.{Participant}
use Rattle.participant.specs.declared.call.Called.{Called}
use Rattle.participant.specs.Call.{accepted_of, done_of, refused_of, settle_to, settle, fact1}

-- the list's first fact holds, or the rest has the first that does
first-here : (f : ℕ × Bool) (fs : List (ℕ × Bool)) → f.1 ≡ true → First (f ∷ fs) f.0
first-here f fs h = record { earlier = []; later = fs; is = ap (λ (t : Bool). (f.0, t) ∷ fs) h; none = tt }

first-later : (f : ℕ × Bool) (fs : List (ℕ × Bool)) (n : ℕ) → f.1 ≡ false → First fs n → First (f ∷ fs) n
first-later f fs n h r = record { earlier = f ∷ r.earlier; later = r.later; is = ap (λ (l : List (ℕ × Bool)). f ∷ l) r.is; none = (h, r.none) }

pub first_holds : (fs : List (ℕ × Bool)) → (first_of fs ≡ 0 → ⊥) → First fs (first_of fs)
first_holds [] h = absurd (h refl)
first_holds (f ∷ fs) h =
    by_cases f.1
    (λ b. let e : first_of (f ∷ fs) ≡ f.0 = rw b in rw e (first-here f fs b))
    (λ b. let e : first_of (f ∷ fs) ≡ first_of fs = rw b in rw e (first-later f fs (first_of fs) b (first_holds fs (rw b at h))))

pub none-holds : (fs : List (ℕ × Bool)) → numbered fs ≡ true → first_of fs ≡ 0 → NoneHolds fs
none-holds [] k e = tt
none-holds (f ∷ fs) k e =
    by_cases f.1
    (λ b. clash (sym (not-true (eqb f.0 0) (first-of _ (numbered fs) k)) ∙ eq-eqb f.0 0 (rw b at e)))
    (λ b. (b, none-holds fs (second-of (not (eqb f.0 0)) (numbered fs) k) (rw b at e)))

-- and the other way round
pub first-number : (earlier later : List (ℕ × Bool)) (n : ℕ) → NoneHolds earlier → first_of (earlier ++ ((n, true) ∷ later)) ≡ n
first-number [] later n h = refl
first-number (f ∷ fs) later n h = rw h.0 (first-number fs later n h.1)

-- a fact that is given has no number 0
pub first-counted : (earlier later : List (ℕ × Bool)) (n : ℕ) → numbered (earlier ++ ((n, true) ∷ later)) ≡ true → eqb n 0 ≡ false
first-counted [] later n k = not-true (eqb n 0) (first-of (not (eqb n 0)) (numbered later) k)
first-counted (f ∷ fs) later n k = first-counted fs later n (second-of (not (eqb f.0 0)) (numbered (fs ++ ((n, true) ∷ later))) k)

pub none_number : (fs : List (ℕ × Bool)) → NoneHolds fs → first_of fs ≡ 0
none_number [] h = refl
none_number (f ∷ fs) h = rw h.0 (none_number fs h.1)

-- its number is that of its refusal
first-refusal : (fs : List (ℕ × Bool)) → known fs ≡ true → (first_of fs ≡ 0 → ⊥) → number_of (refusal (first_of fs)) ≡ first_of fs
first-refusal fs k h = let within = first_known fs k in let some : 0 < first_of fs = omega arith in number_refused (first_of fs) some (omega arith)

-- of a call that comes to r where no fact holds
module _ {T : Type 0} (p : Participant) (r : Called T) (fs : List (ℕ × Bool)) where
  -- "the participant, its clock included, .. stay unchanged"
  pub refused-exactly : (n : ℕ) → first_of fs ≡ n → (n ≡ 0 → ⊥) → settle_to p fs r ≡ refused_of p n
  refused-exactly n e h = rw (e, ne_eqb n 0 h)

  pub done-exactly : first_of fs ≡ 0 → settle_to p fs r ≡ r
  done-exactly e = rw e

  -- one of the two, for a proof over calls
  pub settle-cases {ℓ} : {C : Type ℓ} → numbered fs ≡ true → (settle_to p fs r ≡ r → NoneHolds fs → C) → ((n : ℕ) → settle_to p fs r ≡ refused_of p n → First fs n → C) → C
  settle-cases k done-case no-case =
      by_cases (eqb (first_of fs) 0)
      (λ b. let e = eqb-true (first_of fs) 0 b in done-case (done-exactly e) (none-holds fs k e))
      (λ b. let h = eqb-false (first_of fs) 0 b in no-case (first_of fs) (refused-exactly (first_of fs) refl h) (first_holds fs h))

  -- what the answer tells: it accepts
  pub on-accepted : numbered fs ≡ true → (x : T) → (settle_to p fs r).answer ≡ Ok x → (settle_to p fs r ≡ r) × NoneHolds fs
  on-accepted k x e =
      settle-cases k
      (λ s none. (s, none))
      (λ n s f. let z : ◌≡◌ {A = ℕ} 0 1 = let y = ap (λ (c : Called T). c.answer) s in cc in never (cc))

-- or it refuses
module _ {T : Type 0} (p q : Participant) (x : T) (fs : List (ℕ × Bool)) where
  -- by the first fact that holds, whose refusal it tells
  pub on-refused : (why : Refusal) → (settle_to p fs (accepted_of q x)).answer ≡ Err why
      → (settle_to p fs (accepted_of q x) ≡ refused_of p (first_of fs)) × ((refusal (first_of fs) ≡ why) × First fs (first_of fs))
  on-refused why e =
      by_cases (eqb (first_of fs) 0)
      (λ b. never (let z = rw b at e in cc))
      (λ b. let h = eqb-false (first_of fs) 0 b in
      let s = refused-exactly p (accepted_of q x) fs (first_of fs) refl h in
      let given = ap (λ (c : Called T). c.answer) s in
      let same : refusal (first_of fs) ≡ why = cc in
      (s, (same, first_holds fs h)))

  -- by its number, where the facts' numbers are those of refusals
  pub on-refused-known : known fs ≡ true → (why : Refusal) → (settle_to p fs (accepted_of q x)).answer ≡ Err why
      → (settle_to p fs (accepted_of q x) ≡ record { participant = p; answer = Err why }) × First fs (number_of why)
  on-refused-known k why e =
      by_cases (eqb (first_of fs) 0)
      (λ b. never (let z = rw b at e in cc))
      (λ b. let r = on-refused why e in
      let n : number_of why ≡ first_of fs = ap number_of (sym r.1.0) ∙ first-refusal fs k (eqb-false (first_of fs) 0 b) in
      (r.0 ∙ ap (λ (w : Refusal). record { participant = p; answer = Err w }) r.1.0, rw n r.1.1))

  -- and so it does, of the first fact that holds
  pub refuses-first : numbered fs ≡ true → (why : Refusal) → First fs (number_of why) → settle_to p fs (accepted_of q x) ≡ record { participant = p; answer = Err why }
  refuses-first k why f =
      let n : first_of fs ≡ number_of why = ap first_of f.is ∙ first-number f.earlier f.later (number_of why) f.none in
      let some = eqb-false (number_of why) 0 (first-counted f.earlier f.later (number_of why) (ap numbered (sym f.is) ∙ k)) in
      refused-exactly p (accepted_of q x) fs (number_of why) n some ∙ ap (λ (w : Refusal). record { participant = p; answer = Err w }) (refusal_numbered why)

pub on-done : (p q : Participant) (fs : List (ℕ × Bool)) → numbered fs ≡ true → (settle p fs q).answer ≡ Ok tt → (settle p fs q ≡ done_of q) × NoneHolds fs
on-done p q fs k e = on-accepted p (done_of q) fs k tt e

-- "An accepted call sets the clock"; fact 1 stands first in every timed call, so no call sets it back.
module _ {T : Type 0} (p : Participant) (r : Called T) (time : ℕ) (fs : List (ℕ × Bool)) (k : numbered fs ≡ true) (set : r.participant.clock ≡ time) where
  pub timed-clock : (x : T) → (settle_to p ((1, fact1 p time) ∷ fs) r).answer ≡ Ok x → (settle_to p ((1, fact1 p time) ∷ fs) r).participant.clock ≡ time
  timed-clock x e = ap (λ (c : Called T). c.participant.clock) (on-accepted p r ((1, fact1 p time) ∷ fs) k x e).0 ∙ set

  pub timed-onward : p.clock ≤ (settle_to p ((1, fact1 p time) ∷ fs) r).participant.clock
  timed-onward =
      settle-cases p r ((1, fact1 p time) ∷ fs) k
      (λ e h. let c = ap (λ (c : Called T). c.participant.clock) e in omega (arith, ltb-false time p.clock h.0))
      (λ n e h. let c = ap (λ (c : Called T). c.participant.clock) e in omega arith)
