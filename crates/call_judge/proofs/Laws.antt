-- What an answer tells of the facts behind it, where more facts follow them.
use Rattle.std.proofs.Common.{ℕ, ◌≡◌, refl, ap, ◌∙◌, List, [], ◌∷◌, ◌++◌}
use Rattle.std.specs.Prelude.{Bool, true, false, cond, eqb, Ok, Err}
use Rattle.base_facts.specs.Facts.{first_of}
use Rattle.base_facts.specs.Refusal.{number_of, refusal, told}
use Rattle.base_facts.specs.declared.Refusal.{Refusal}
use Rattle.base_facts.proofs.Laws.{Counted, first_more}
use Rattle.frame.specs.Basic.{body_len, basic_len, fact2, fact3, fact4, fact5, basic_facts, basic_of}
use Rattle.frame.specs.declared.Basic.{Basic}
use Rattle.frame_walk.specs.Walk.{walk_of}
use Rattle.participant.specs.Call.{fact1}
use Rattle.participant.specs.declared.Participant.{Participant}
use Rattle.call_judge.specs.declared.Judged.{Judged}
use Rattle.call_judge.specs.Judge.{own_ckn, foreign_facts, basic_in, is_bad, places_in, judged_in, frame_facts, judged_of}

pub told-ok : {A : Type 0} (n : ℕ) (x y : A) → told n x ≡ Ok y → (eqb n 0 ≡ true) × (x ≡ y)
told-ok {A} n x y e = go (eqb n 0) e
  where
    go : (t : Bool) → cond t (Ok x) (Err (refusal n)) ≡ Ok y → (t ≡ true) × (x ≡ y)
    go true h = (refl, cc)
    go false h = absurd (cc)

pub told-err : {A : Type 0} (n : ℕ) (x : A) (why : Refusal) → told n x ≡ Err why → (eqb n 0 ≡ false) × (refusal n ≡ why)
told-err {A} n x why e = go (eqb n 0) e
  where
    go : (t : Bool) → cond t (Ok x) (Err (refusal n)) ≡ Err why → (t ≡ false) × (refusal n ≡ why)
    go false h = (refl, cc)
    go true h = absurd (cc)

-- ---- what the Basic set's answer tells of facts 2 to 5

four-good : (t2 t3 t4 t5 : Bool) → eqb (first_of ((2, t2) ∷ (3, t3) ∷ (4, t4) ∷ (5, t5) ∷ [])) 0 ≡ true → (t2 ≡ false) × (t3 ≡ false) × (t4 ≡ false) × (t5 ≡ false)
four-good false false false false e = (refl, refl, refl, refl)
four-good true t3 t4 t5 e = absurd (cc)
four-good false true t4 t5 e = absurd (cc)
four-good false false true t5 e = absurd (cc)
four-good false false false true e = absurd (cc)

pub basic-good : (s : List ℕ) (b : Basic) → basic_of s ≡ Ok b
    → (fact2 s ≡ false) × (fact3 s ≡ false) × (fact4 (body_len s) ≡ false) × (fact5 (basic_len s) (body_len s) ≡ false) × (basic_in s ≡ b)
unfolding basic_of
basic-good s b e =
    let t = told-ok (first_of (basic_facts s)) (basic_in s) b e in
    let f = four-good (fact2 s) (fact3 s) (fact4 (body_len s)) (fact5 (basic_len s) (body_len s)) t.0 in
    (f.0, f.1, f.2, f.3, t.1)

four-bad : (t2 t3 t4 t5 : Bool) (why : Refusal) (more : List (ℕ × Bool))
    → eqb (first_of ((2, t2) ∷ (3, t3) ∷ (4, t4) ∷ (5, t5) ∷ [])) 0 ≡ false → refusal (first_of ((2, t2) ∷ (3, t3) ∷ (4, t4) ∷ (5, t5) ∷ [])) ≡ why
    → (first_of ((2, t2) ∷ (3, t3) ∷ (4, t4) ∷ (5, t5) ∷ more) ≡ number_of why) × (eqb (number_of why) 0 ≡ false)
four-bad true t3 t4 t5 why more z e = let m : 2 ≡ number_of why = ap number_of e in (m, rw (← m))
four-bad false true t4 t5 why more z e = let m : 3 ≡ number_of why = ap number_of e in (m, rw (← m))
four-bad false false true t5 why more z e = let m : 4 ≡ number_of why = ap number_of e in (m, rw (← m))
four-bad false false false true why more z e = let m : 5 ≡ number_of why = ap number_of e in (m, rw (← m))
four-bad false false false false why more z e = absurd (cc)

pub basic-bad : (s : List ℕ) (why : Refusal) (more : List (ℕ × Bool)) → basic_of s ≡ Err why
    → (first_of ((2, fact2 s) ∷ (3, fact3 s) ∷ (4, fact4 (body_len s)) ∷ (5, fact5 (basic_len s) (body_len s)) ∷ more) ≡ number_of why) × (eqb (number_of why) 0 ≡ false)
unfolding basic_of
basic-bad s why more e =
    let t = told-err (first_of (basic_facts s)) (basic_in s) why e in
    four-bad (fact2 s) (fact3 s) (fact4 (body_len s)) (fact5 (basic_len s) (body_len s)) why more t.0 t.1

module _ {A B : Type 0} (fs gs : List (ℕ × Bool)) (numbered : Counted fs) (x : A) (z : B) where
  tell : first_of (fs ++ gs) ≡ cond (eqb (first_of fs) 0) (first_of gs) (first_of fs) → told (first_of (fs ++ gs)) z ≡ told (cond (eqb (first_of fs) 0) (first_of gs) (first_of fs)) z
  tell e = ap (λ (n : ℕ). told n z) e

  -- none of the first ones holds: the others decide
  pub passed : (y : A) → told (first_of fs) x ≡ Ok y → told (first_of (fs ++ gs)) z ≡ told (first_of gs) z
  passed y e = tell (first_more fs gs numbered) ∙ ap (λ (t : Bool). told (cond t (first_of gs) (first_of fs)) z) (told-ok (first_of fs) x y e).0

  -- one of them does: it decides
  pub failed : (why : Refusal) → told (first_of fs) x ≡ Err why → told (first_of (fs ++ gs)) z ≡ Err why
  failed why e =
      let t = told-err (first_of fs) x why e in
      tell (first_more fs gs numbered) ∙ ap (λ (b : Bool). told (cond b (first_of gs) (first_of fs)) z) t.0 ∙ rw (t.0, t.1)

-- ---- facts 2 to 9 of a frame that comes in time

module _ (p : Participant) (time : ℕ) (verdict : Bool) (s : List ℕ) (timely : fact1 p time ≡ false) where
  abbrev last : Basic → List (ℕ × Bool)
  last b = (9, is_bad (walk_of s b.next b.stop)) ∷ []

  abbrev with_walk : Basic → Judged
  with_walk b = record { basic = b; places = places_in (walk_of s b.next b.stop) }

  pub judged-basic-bad : (why : Refusal) → basic_of s ≡ Err why → judged_of p time verdict s ≡ Err why
  unfolding judged_of frame_facts basic_of
  judged-basic-bad why e =
      rw timely (failed (basic_facts s) (foreign_facts s (basic_in s) (own_ckn p) verdict ++ last (basic_in s)) (refl, (refl, (refl, (refl, tt)))) (basic_in s) (judged_in s) why e)

  module _ (b : Basic) (good : basic_of s ≡ Ok b) where
    judged-basic-good : judged_of p time verdict s ≡ told (first_of (foreign_facts s b (own_ckn p) verdict ++ last b)) (with_walk b)
    unfolding judged_of frame_facts basic_of
    judged-basic-good =
        let more = foreign_facts s (basic_in s) (own_ckn p) verdict ++ last (basic_in s) in
        rw timely (passed (basic_facts s) more (refl, (refl, (refl, (refl, tt)))) (basic_in s) (judged_in s) b good
        ∙ ap (λ (x : Basic). told (first_of (foreign_facts s x (own_ckn p) verdict ++ last x)) (with_walk x)) (told-ok (first_of (basic_facts s)) (basic_in s) b good).1)

    pub foreign-bad : (why : Refusal) → told (first_of (foreign_facts s b (own_ckn p) verdict)) (tt {0}) ≡ Err why → judged_of p time verdict s ≡ Err why
    foreign-bad why e = judged-basic-good ∙ failed (foreign_facts s b (own_ckn p) verdict) (last b) (refl, (refl, (refl, tt))) (tt {0}) (with_walk b) why e

    pub foreign-good : told (first_of (foreign_facts s b (own_ckn p) verdict)) (tt {0}) ≡ Ok (tt {0}) → judged_of p time verdict s ≡ told (first_of (last b)) (with_walk b)
    foreign-good e = judged-basic-good ∙ passed (foreign_facts s b (own_ckn p) verdict) (last b) (refl, (refl, (refl, tt))) (tt {0}) (with_walk b) (tt {0}) e
