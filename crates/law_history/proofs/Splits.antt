-- Histories taken apart and put together.
use Rattle.std.specs.Prelude.{ℕ, ◌≡◌, refl, Bool, true, false, List, [], ◌∷◌, ◌++◌, length, Ok}
use Rattle.std.proofs.Math.Path.{ap}
use Rattle.std.proofs.Common.{sym, ◌∙◌}
use Rattle.base_mi.specs.declared.Mi.{Mi}
use Rattle.call_creation.specs.Create.{bad_start, fresh, empty_participant}
use Rattle.participant.specs.declared.Participant.{Participant}
use Rattle.participant.specs.declared.call.Called.{Called}
use Rattle.participant.proofs.Settle.{on-done}
use Rattle.law_calls.specs.Settled.{create-settles}
use Rattle.law_lists.proofs.Laws.{by_cases, never, clash}
use Rattle.law_history.specs.Calls.{Creation, created, Call, receives, sends, distributes, ticks, renews, reports, asks, saves, answered, played, after, accepts, accepted, folded, identifier_after, handed, identifier, keys_distributed, Made, NoneTaken}
use Rattle.law_history.specs.Steps.{becomes, refused-leaves, accepted-becomes}
use Rattle.law_history.proofs.Becomes.{effect}

-- what an accepted creation gives
pub start : (k : Creation) → (created k).answer ≡ Ok tt → (created k).participant ≡ fresh k.time k.mi k.sci k.priority k.capability k.desired k.ckn
unfolding created
start k ok =
    let e = create-settles k.time k.mi k.sci k.priority k.capability k.desired k.ckn in
    let p = fresh k.time k.mi k.sci k.priority k.capability k.desired k.ckn in
    let s = on-done empty_participant p ((15, bad_start (length k.ckn) k.capability) ∷ []) refl (ap (λ (r : Called (Unit {0})). r.answer) (sym e) ∙ ok) in
    ap (λ (r : Called (Unit {0})). r.participant) (e ∙ s.0)

-- the calls after others go on from what those made
pub from-append : (p : Participant) (ds cs : List Call) → played p (ds ++ cs) ≡ played (played p cs) ds
from-append p [] cs = refl
from-append p (d ∷ ds) cs = ap (λ (q : Participant). answered q d) (from-append p ds cs)

module _ (k : Creation) where
  abbrev pub made-now : (cs : List Call) (c : Call) → accepted k cs c ≡ true → Made k (c ∷ cs) c
  made-now cs c e = record { later = []; earlier = cs; split = refl; done = e }

  abbrev pub made-before : (cs : List Call) (d c : Call) → Made k cs c → Made k (d ∷ cs) c
  made-before cs d c h = record { later = d ∷ h.later; earlier = h.earlier; split = ap (λ (l : List Call). d ∷ l) h.split; done = h.done }

  -- the participant after an accepted call, and after a refused one
  pub after-accepted : (cs : List Call) (c : Call) → accepted k cs c ≡ true → after k (c ∷ cs) ≡ becomes (after k cs) c
  after-accepted cs c e = accepted-becomes (after k cs) c e

  pub after-refused : (cs : List Call) (c : Call) → accepted k cs c ≡ false → after k (c ∷ cs) ≡ after k cs
  after-refused cs c e = refused-leaves (after k cs) c e

  -- none taken, over one call more
  pub taken_none : (earlier : List Call) → NoneTaken k [] earlier
  taken_none earlier [] es time m e = never (cc)
  taken_none earlier (d ∷ ds) es time m e = never (cc)

  pub taken-before : (d : Call) (later earlier : List Call) → NoneTaken k (d ∷ later) earlier → NoneTaken k later earlier
  taken-before d later earlier h ds es time m e = h (d ∷ ds) es time m (ap (λ (l : List Call). d ∷ l) e)

  pub taken-after : (d : Call) (later earlier : List Call) → ((time : ℕ) (m : Mi) → d ≡ renews time m → accepted k (later ++ earlier) d ≡ false) → NoneTaken k later earlier → NoneTaken k (d ∷ later) earlier
  taken-after d later earlier one h [] es time m e =
      let a : d ≡ renews time m = cc in
      let b : later ≡ es = cc in
      ap (λ (l : List Call). accepted k (l ++ earlier) (renews time m)) (sym b) ∙ ap (λ (x : Call). accepted k (later ++ earlier) x) (sym a) ∙ one time m a
  taken-after d later earlier one h (x ∷ ds) es time m e = h ds es time m (cc)

-- what holds of a participant and of what the accepted calls make holds after any history
pub carry {ℓ κ} : {A : Type ℓ} (k : Creation) (step : Participant → Call → A → A) (x : A) (P : Participant → A → Type κ) → P (after k []) x
    → ((p : Participant) (c : Call) (y : A) → accepts p c ≡ true → P p y → P (becomes p c) (step p c y)) → (cs : List Call) → P (after k cs) (folded k step x cs)
carry k step x P first next [] = first
carry k step x P first next (c ∷ cs) =
    by_cases (accepted k cs c)
    (λ e. rw (e, after-accepted k cs c e) (next (after k cs) c (folded k step x cs) e (carry k step x P first next cs)))
    (λ e. rw (e, after-refused k cs c e) (carry k step x P first next cs))

pub always {κ} : (k : Creation) (P : Participant → Type κ) → P (after k []) → ((p : Participant) (c : Call) → accepts p c ≡ true → P p → P (becomes p c)) → (cs : List Call) → P (after k cs)
always k P first next cs = carry {A = ℕ} k (λ p c n. n) 0 (λ p n. P p) first (λ p c n e h. next p c e h) cs

-- our identifier, the number of keys distributed and our capability are those that the participant has
module _ (k : Creation) (ok : (created k).answer ≡ Ok tt) where
  pub own : (cs : List Call) → (after k cs).mi ≡ identifier k cs
  unfolding fresh
  own cs =
      carry k (λ p. identifier_after) k.mi (λ p m. p.mi ≡ m) (ap (λ (p : Participant). p.mi) (start k ok))
      (λ p c m e h. (effect p c).mi ∙ ap (identifier_after c) h) cs

  pub distributed : (cs : List Call) → (after k cs).kn ≡ keys_distributed k cs
  unfolding fresh
  distributed cs =
      carry k (λ p. handed) 0 (λ p n. p.kn ≡ n) (ap (λ (p : Participant). p.kn) (start k ok))
      (λ p c n e h. (effect p c).kn ∙ ap (handed c) h) cs

  pub capable : (cs : List Call) → (after k cs).capability ≡ k.capability
  unfolding fresh
  capable cs =
      always k (λ p. p.capability ≡ k.capability) (ap (λ (p : Participant). p.capability) (start k ok))
      (λ p c e h. (effect p c).capability ∙ h) cs

-- ---- our identifier stays where none is taken

module _ (k : Creation) where
  pub identifier-kept : (cs : List Call) (c : Call) → ((time : ℕ) (m : Mi) → c ≡ renews time m → accepted k cs c ≡ false) → identifier k (c ∷ cs) ≡ identifier k cs
  identifier-kept cs c one = by_cases (accepted k cs c) (λ e. rw e (by_call c e one)) (λ e. rw e)
    where
      by_call : (d : Call) → accepted k cs d ≡ true → ((time : ℕ) (m : Mi) → d ≡ renews time m → accepted k cs d ≡ false) → identifier_after d (identifier k cs) ≡ identifier k cs
      by_call (receives time verdict frame) e none = refl
      by_call (sends time latest_pn old_pn out) e none = refl
      by_call (distributes time wrapped) e none = refl
      by_call (ticks time) e none = refl
      by_call (renews time m) e none = clash (sym (none time m refl) ∙ e)
      by_call (reports m kn transmit) e none = refl
      by_call asks e none = refl
      by_call (saves out) e none = refl

  pub identifier-received : (cs : List Call) (time : ℕ) (verdict : Bool) (frame : List ℕ) → identifier k (receives time verdict frame ∷ cs) ≡ identifier k cs
  identifier-received cs time verdict frame = identifier-kept cs (receives time verdict frame) (λ t m e. never (cc))

  pub identifier-since : (later earlier : List Call) → NoneTaken k later earlier → identifier k (later ++ earlier) ≡ identifier k earlier
  identifier-since [] earlier none = refl
  identifier-since (c ∷ later) earlier none =
      identifier-kept (later ++ earlier) c (λ time m e. ap (accepted k (later ++ earlier)) e ∙ none [] later time m (ap (λ (d : Call). d ∷ later) e))
      ∙ identifier-since later earlier (taken-before k c later earlier none)
