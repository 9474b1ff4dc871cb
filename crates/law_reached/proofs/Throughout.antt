-- The induction over histories of calls that carry what they can.
use Rattle.std.specs.Prelude.{List, [], ◌∷◌, ◌++◌}
use Rattle.law_lists.proofs.Laws.{by_cases}
use Rattle.participant.specs.declared.Participant.{Participant}
use Rattle.participant.specs.First.{NoneHolds}
use Rattle.law_history.specs.Calls.{Creation, Call, after, accepted, Made}
use Rattle.law_history.specs.Steps.{facts, becomes, accepted-none}
use Rattle.law_history.proofs.Splits.{after-accepted, after-refused}
use Rattle.law_reached.specs.Carried.{Carried, AllCarried}

-- what holds of the created participant and is kept by each accepted call holds after any history
pub throughout {κ} : (k : Creation) (P : Participant → Type κ) → P (after k [])
    → ((p : Participant) (c : Call) → NoneHolds (facts p c) → Carried c → P p → P (becomes p c))
    → (cs : List Call) → AllCarried cs → P (after k cs)
throughout k P first next [] h = first
throughout k P first next (c ∷ cs) h =
    by_cases (accepted k cs c)
    (λ e. rw (after-accepted k cs c e) (next (after k cs) c (accepted-none (after k cs) c e) h.0 (throughout k P first next cs h.1)))
    (λ e. rw (after-refused k cs c e) (throughout k P first next cs h.1))

-- a call of the history and those before it carry what they can too
all_after : (later earlier : List Call) → AllCarried (later ++ earlier) → AllCarried earlier
all_after [] earlier h = h
all_after (d ∷ later) earlier h = all_after later earlier h.1

pub carried-made : (k : Creation) (cs : List Call) (c : Call) (made : Made k cs c) → AllCarried cs → AllCarried (c ∷ made.earlier)
carried-made k cs c made h = all_after made.later (c ∷ made.earlier) (rw made.split at h)
