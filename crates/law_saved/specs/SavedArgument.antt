-- Why: by what an image tells of a well-formed participant (Told), and what is read of an accepted one (Back).
use Rattle.std.specs.Prelude.{ℕ, ◌≡◌, List, true, false}
use Rattle.std.proofs.Common.{ap, sym, ◌∙◌}
use Rattle.base_octets.specs.Octets.{Octets}
use Rattle.law_lists.proofs.Laws.{by_cases, never}
use Rattle.participant.specs.Call.{done_of, refused_of}
use Rattle.call_creation.specs.Create.{empty_participant}
use Rattle.participant.specs.declared.Participant.{Participant}
use Rattle.participant.specs.declared.call.Called.{Called}
use Rattle.image.specs.Image.{image_of}
use Rattle.image_reading.specs.Read.{told_by, well_formed, read_of}
use Rattle.law_saved.specs.Told as told
use Rattle.law_saved.specs.Back as back
use Rattle.law_saved.specs.Saved.{IsImage, ReadsBack, WrittenAgain, AnswersWellFormed, RefusedExactly, NotLong}

-- Reading answers with what the image tells, or refuses with 16.
accepts : (s : List ℕ) → well_formed s ≡ true → read_of s ≡ done_of (told_by s)
unfolding read_of
accepts s e = rw e

refuses : (s : List ℕ) → well_formed s ≡ false → read_of s ≡ refused_of empty_participant 16
unfolding read_of
refuses s e = rw e

-- and only a well-formed image is accepted
accepted : (s : List ℕ) (p : Participant) → read_of s ≡ done_of p → (well_formed s ≡ true) × (told_by s ≡ p)
accepted s p e =
    by_cases (well_formed s)
    (λ w. (w, ap (λ (r : Called (Unit {0})). r.participant) (sym (accepts s w) ∙ e)))
    (λ w. let k = ap (λ (r : Called (Unit {0})). r.answer) (sym (refuses s w) ∙ e) in never (cc))

pub reads-back : ReadsBack
reads-back p w = told.reads-back p w

pub written-again : WrittenAgain
written-again s p o e = let a = accepted s p e in ap image_of (sym a.1) ∙ back.written-again s o a.0

pub well-formed : AnswersWellFormed
well-formed s p o e = let a = accepted s p e in rw a.1 at (back.well-formed s o a.0)

image-of : (s : List ℕ) → Octets s → well_formed s ≡ true → IsImage s
image-of s o w = record { participant = told_by s; formed = back.well-formed s o w; octets = back.written-again s o w }

pub refused-exactly : RefusedExactly
refused-exactly s o = (
  (λ r i.
      let e : read_of s ≡ done_of i.participant = ap read_of (sym i.octets) ∙ reads-back i.participant i.formed in
      let k = ap (λ (x : Called (Unit {0})). x.answer) (sym e ∙ r) in
      never (cc)),
  (λ n. by_cases (well_formed s) (λ w. absurd (n (image-of s o w))) (refuses s)),
)

pub not-long : NotLong
not-long s p o e = back.not-long s o (accepted s p e).0
