-- Why the clock is the latest time: an accepted call's time is the clock after it, and no call sets it back.
use Rattle.std.specs.Prelude.{ℕ, ◌≤◌, ◌≡◌, refl, true, List, [], ◌∷◌, ◌++◌, ◌⊎◌, Ok}
use Rattle.std.proofs.Math.Path.{ap}
use Rattle.std.proofs.Common.{◌∙◌, inl, inr, arith}
use Rattle.std.proofs.Math.Option.{Option, none, some}
use Rattle.law_lists.proofs.Laws.{by_cases}
use Rattle.call_creation.specs.Create.{fresh}
use Rattle.participant.specs.declared.Participant.{Participant}
use Rattle.law_history.specs.Calls.{Creation, created, Call, answered, played, after, accepts, accepted, time_of}
use Rattle.law_history.specs.Steps.{accepted-becomes, accepted-none, refused-leaves}
use Rattle.law_history.proofs.Becomes.{time_or, effect, not-before}
use Rattle.law_history.proofs.Splits.{start, from-append, made-now, made-before, after-accepted, after-refused}
use Rattle.law_history.specs.Clock.{Timed, ClockLatest}

-- no call sets the clock back
onward-one : (p : Participant) (c : Call) → p.clock ≤ (answered p c).clock
onward-one p c =
    by_cases (accepts p c)
    (λ e.
    let a = ap (λ (q : Participant). q.clock) (accepted-becomes p c e) ∙ (effect p c).clock in
    omega (arith, not-before p c (accepted-none p c e)))
    (λ e. let a = ap (λ (q : Participant). q.clock) (refused-leaves p c e) in omega arith)

onward-from : (p : Participant) (cs : List Call) → p.clock ≤ (played p cs).clock
onward-from p [] = omega arith
onward-from p (c ∷ cs) = omega (arith, onward-from p cs, onward-one (played p cs) c)

pub onward : (k : Creation) (later earlier : List Call) → (after k earlier).clock ≤ (after k (later ++ earlier)).clock
onward k later earlier =
    let e = ap (λ (q : Participant). q.clock) (from-append (created k).participant later earlier) in
    omega (arith, onward-from (after k earlier) later)

-- an accepted call's time is the clock after it
pub clock-set : (k : Creation) (cs : List Call) (c : Call) → accepted k cs c ≡ true → (after k (c ∷ cs)).clock ≡ time_or (time_of c) (after k cs).clock
clock-set k cs c e = ap (λ (q : Participant). q.clock) (after-accepted k cs c e) ∙ (effect (after k cs) c).clock

module _ (k : Creation) (ok : (created k).answer ≡ Ok tt) where
  starts : (after k []).clock ≡ k.time
  unfolding fresh
  starts = ap (λ (q : Participant). q.clock) (start k ok)

  before : (cs : List Call) (d : Call) (n : ℕ) → (n ≡ k.time) ⊎ Timed k cs n → (n ≡ k.time) ⊎ Timed k (d ∷ cs) n
  before cs d n (inl e) = inl e
  before cs d n (inr t) = inr (record { call = t.call; made = made-before k cs d t.call t.made; at = t.at })

  reached : (cs : List Call) → ((after k cs).clock ≡ k.time) ⊎ Timed k cs (after k cs).clock
  reached [] = inl starts
  reached (c ∷ cs) =
      by_cases (accepted k cs c)
      (λ e. by-time e (time_of c) refl (reached cs))
      (λ e. rw (after-refused k cs c e) (before cs c _ (reached cs)))
    where
      by-time : accepted k cs c ≡ true → (t : Option ℕ) → time_of c ≡ t → ((after k cs).clock ≡ k.time) ⊎ Timed k cs (after k cs).clock
          → ((after k (c ∷ cs)).clock ≡ k.time) ⊎ Timed k (c ∷ cs) (after k (c ∷ cs)).clock
      by-time e none n r = rw (clock-set k cs c e, n) (before cs c _ r)
      by-time e (some t) n r = rw (clock-set k cs c e, n) (inr (record { call = c; made = made-now k cs c e; at = n }))

pub clock-latest : ClockLatest
clock-latest k ok cs = record { one = reached k ok cs; created = first; none-later = bound }
  where
    first : k.time ≤ (after k cs).clock
    first = omega (arith, starts k ok, onward-from (created k).participant cs)

    bound : (time : ℕ) → Timed k cs time → time ≤ (after k cs).clock
    bound time t =
        let m = t.made in
        let set : (after k (t.call ∷ m.earlier)).clock ≡ time = clock-set k m.earlier t.call m.done ∙ ap (λ (x : Option ℕ). time_or x (after k m.earlier).clock) t.at in
        let whole = ap (λ (l : List Call). (after k l).clock) m.split in
        omega (arith, onward k m.later (t.call ∷ m.earlier))
