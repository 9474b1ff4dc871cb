-- The facts of a frame and of the table, in their order.
use Rattle.std.proofs.Common.{ℕ, ◌≡◌, refl, sym, ap, ◌∙◌, List, arith}
use borrow.Author.Tests.{eqb-false}
use Rattle.std.specs.Prelude.{Bool, false, cond, eqb, Ok, Err}
use Rattle.base_facts.specs.Facts.{first_of}
use Rattle.base_facts.specs.Refusal.{number_of}
use Rattle.base_facts.specs.declared.Refusal.{Refusal}
use Rattle.base_facts.proofs.Laws.{first_more, first_known, number_refused}
use Rattle.participant.specs.declared.Participant.{Participant}
use Rattle.call_judge.specs.declared.Judged.{Judged}
use Rattle.call_judge.specs.Judge.{basic_in, judged_in, frame_facts, judged_of}
use Rattle.call_judge.proofs.Laws.{told-ok, told-err}
use Rattle.call_receive.specs.Receive.{table_facts, receive_facts}

module _ (p : Participant) (time : ℕ) (verdict : Bool) (s : List ℕ) where
  split : first_of (receive_facts p time verdict s)
      ≡ cond (eqb (first_of (frame_facts p time verdict s)) 0) (first_of (table_facts p time (basic_in s))) (first_of (frame_facts p time verdict s))
  unfolding receive_facts frame_facts
  split = first_more (frame_facts p time verdict s) (table_facts p time (basic_in s)) (refl, (refl, (refl, (refl, (refl, (refl, (refl, (refl, (refl, tt)))))))))

  pub judged-good : (j : Judged) → judged_of p time verdict s ≡ Ok j
      → (first_of (receive_facts p time verdict s) ≡ first_of (table_facts p time j.basic)) × (judged_in s ≡ j)
  unfolding judged_of
  judged-good j e =
      let t = told-ok (first_of (frame_facts p time verdict s)) (judged_in s) j e in
      (split ∙ rw t.0 (ap (λ (k : Judged). first_of (table_facts p time k.basic)) t.1), t.1)

  pub judged-bad : (why : Refusal) → judged_of p time verdict s ≡ Err why
      → (first_of (receive_facts p time verdict s) ≡ number_of why) × (eqb (number_of why) 0 ≡ false)
  unfolding judged_of frame_facts
  judged-bad why e =
      let n = first_of (frame_facts p time verdict s) in
      let t = told-err n (judged_in s) why e in
      let few = first_known (frame_facts p time verdict s) refl in
      let number : n ≡ number_of why = sym (number_refused n (omega (arith, eqb-false n 0 t.0)) (omega (arith, few))) ∙ ap number_of t.1 in
      (split ∙ rw t.0 number, ap (λ (k : ℕ). eqb k 0) (sym number) ∙ t.0)
