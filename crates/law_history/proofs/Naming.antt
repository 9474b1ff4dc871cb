-- A frame is a proof exactly where its lists have an entry with our identifier and a recent number.
use Rattle.std.specs.Prelude.{ℕ, ◌≡◌, Bool, true, false, ◌&&◌, ◌||◌, Option, Some, None}
use Rattle.std.proofs.Math.Path.{refl}
use Rattle.std.proofs.Common.{sym, ◌∙◌, ⊎_elim}
use mathlib.Core.List.Memᴰ
use mathlib.Core.List.{List, [], ◌∷◌, Memᴰ}
use Rattle.base_mi.specs.Mi.{mi_same}
use Rattle.base_mi.specs.declared.Mi.{Mi}
use Rattle.base_mi.specs.declared.entry.Entry.{Entry}
use Rattle.frame_places.specs.declared.Spot.{Spot}
use Rattle.law_lists.proofs.Laws.{by_cases, clash, first-of, second-of}
use Rattle.law_kept.specs.Same.{same-eq, same_refl}
use Rattle.participant.specs.declared.Participant.{Participant}
use Rattle.call_judge.specs.Judge.{walk_in, places_in}
use Rattle.call_hearing.specs.Proof.{is_recent, any_recent, named_in, proves_in}
use Rattle.law_history.proofs.Becomes.{proves}
use Rattle.law_history.specs.Live.{entries_at, listed}

-- an entry with our identifier and a number that is recent by the last one sent
pub record Has (own : Mi) (last : ℕ) (es : List Entry) : Type 0 where
  pub number : ℕ
  pub named : Memᴰ (record { mi = own; mn = number }) es
  pub recent : is_recent number last ≡ true

module _ (own : Mi) (last : ℕ) where
  has_one : (es : List Entry) → any_recent own last es ≡ true → Has own last es
  has_one [] e = clash e
  has_one (x ∷ es) e =
      by_cases (mi_same x.mi own && is_recent x.mn last)
      (λ b.
      let mi = same-eq x.mi own (first-of (mi_same x.mi own) (is_recent x.mn last) b) in
      record {
        number = x.mn;
        named = Memᴰ.head (λ i. record { mi = sym mi i; mn = x.mn });
        recent = second-of (mi_same x.mi own) (is_recent x.mn last) b;
      })
      (λ b. let r = has_one es (rw b at e) in record { number = r.number; named = Memᴰ.tail r.named; recent = r.recent })

  one_has : (es : List Entry) → Has own last es → any_recent own last es ≡ true
  one_has [] h = absurd (Memᴰ.not-nil h.named)
  one_has (x ∷ es) h =
      ⊎_elim
      (λ s. rw (← s, same_refl own, h.recent))
      (λ m. by_cases (mi_same x.mi own && is_recent x.mn last) (λ b. rw b) (λ b. rw b (one_has es (record { number = h.number; named = m; recent = h.recent }))))
      (Memᴰ.cases_cons h.named)

or-true : (a b : Bool) → b ≡ true → a || b ≡ true
or-true true b e = refl
or-true false b e = e

module _ (p : Participant) (frame : List ℕ) where
  abbrev live : List Entry
  live = entries_at frame (places_in (walk_in frame)).live

  abbrev potential : List Entry
  potential = entries_at frame (places_in (walk_in frame)).potential

  named-listed : (list : Option Spot) → named_in frame list p.mi p.mn ≡ any_recent p.mi p.mn (entries_at frame list)
  unfolding named_in
  named-listed None = refl
  named-listed (Some list) = refl

  proves-lists : proves p frame ≡ any_recent p.mi p.mn live || any_recent p.mi p.mn potential
  unfolding proves_in
  proves-lists = rw (named-listed (places_in (walk_in frame)).live, named-listed (places_in (walk_in frame)).potential)

  pub proves-has : proves p frame ≡ true → Has p.mi p.mn (listed frame)
  proves-has e =
      by_cases (any_recent p.mi p.mn live)
      (λ b. let r = has_one p.mi p.mn live b in record { number = r.number; named = Memᴰ.append_left potential r.named; recent = r.recent })
      (λ b.
      let z = sym proves-lists ∙ e in
      let r = has_one p.mi p.mn potential (rw b at z) in
      record { number = r.number; named = Memᴰ.append_right live r.named; recent = r.recent })

  pub has-proves : Has p.mi p.mn (listed frame) → proves p frame ≡ true
  has-proves h =
      proves-lists
      ∙ ⊎_elim
      (λ m. rw (one_has p.mi p.mn live (record { number = h.number; named = m; recent = h.recent })))
      (λ m. or-true (any_recent p.mi p.mn live) _ (one_has p.mi p.mn potential (record { number = h.number; named = m; recent = h.recent })))
      (Memᴰ.append_cases live h.named)
