-- What each rule tells of a type, a length and the room.
use Prim.Native.Nat.{ℕ, ◌+◌, ◌≤◌, ◌<◌}
use mathlib.Core.Path.{◌≡◌, ap, ◌∙◌}
use mathlib.Core.Bool.{Bool, true, false, cond, not, ◌||◌}
use native.Mathlib.Omega.{arith}
use lib.Dec.{eqb, leb}
use borrow.Author.Tests.{ne_eqb, eqb-true, leb-true, lt-leb}
use Rattle.law_lists.proofs.Laws.{by_cases, or-none, or-with}
use Rattle.base_facts.specs.Facts.{padded_of}
use Rattle.frame_rules.specs.Rules.{extent_of, unnumbered, allowed_others, bad_shape, bad_body}
use Rattle.frame_places.specs.Once.{holds}
use Rattle.frame_places.specs.declared.Places.{Places}

-- ---- the room of a set

-- a set takes four octets at least
cond-least : (t : Bool) (n : ℕ) → 4 ≤ n → 4 ≤ cond t 4 n
cond-least true n h = omega arith
cond-least false n h = h

pub extent-least : (t len : ℕ) → 4 ≤ extent_of t len
unfolding extent_of
extent-least t len = cond-least (eqb t 255) (4 + padded_of len) (omega arith)

cond-most : (t : Bool) (n : ℕ) → 4 ≤ n → cond t 4 n ≤ n
cond-most true n h = h
cond-most false n h = omega arith

pub extent-most : (t len : ℕ) → extent_of t len ≤ 4 + padded_of len
unfolding extent_of
extent-most t len = cond-most (eqb t 255) (4 + padded_of len) (omega arith)

pub fits-room : (b : Bool) (x room : ℕ) → cond b (eqb room x) (leb x room) ≡ true → x ≤ room
fits-room true x room e = omega (arith, eqb-true room x e)
fits-room false x room e = leb-true x room e

pub fits_not : (b : Bool) (x room : ℕ) → room < x → cond b (eqb room x) (leb x room) ≡ false
fits_not true x room h = ne_eqb room x (omega arith)
fits_not false x room h = lt-leb x room h

module _ (t len room kn : ℕ) (seen : Places) where
  module _ (other : t ≡ 255 → ⊥) where
    -- the lengths but the lists', and the key number, are of types 3 and 4
    body-rules : not (allowed_others t len) || unnumbered t len kn ≡ bad_body t len kn
    unfolding bad_body
    body-rules =
        by_cases (eqb t 1) (λ e. rw (eqb-true t 1 e)) (λ a.
        by_cases (eqb t 2) (λ e. rw (eqb-true t 2 e)) (λ b.
        by_cases (eqb t 3) (λ e. rw (eqb-true t 3 e)) (λ c.
        by_cases (eqb t 4) (λ e. rw (eqb-true t 4 e)) (λ d. rw (a, b, c, d, ne_eqb t 255 other)))))

    pub shape_other : bad_shape t len room kn seen ≡ not (leb (4 + padded_of len) room) || (bad_body t len kn || holds seen t)
    unfolding bad_shape extent_of
    shape_other =
        rw (ne_eqb t 255 other)
        (ap (λ (b : Bool). not (leb (4 + padded_of len) room) || b)
        (rw (ne_eqb t 255 other) at (or-with (not (allowed_others t len)) (unnumbered t len kn) (holds seen t)
        ∙ ap (λ (b : Bool). b || holds seen t) body-rules)))

-- type 255
pub shape_icv : (len room kn : ℕ) (seen : Places) → bad_shape 255 len room kn seen ≡ not (eqb room 4) || not (eqb len 16)
unfolding bad_shape extent_of holds
shape_icv len room kn seen = ap (λ (b : Bool). not (eqb room 4) || b) (or-none (not (eqb len 16)))
