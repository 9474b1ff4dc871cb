-- "Numbers of refusal": a call is its facts in their order, and what the participant becomes where none holds.
use Rattle.std.specs.Prelude.{ℕ, Bool, cond, List, ltb, eqb, Ok, Err}
use Rattle.base_facts.specs.Facts.{first_of}
use Rattle.base_facts.specs.Refusal.{refusal}
use Rattle.table_expiry.specs.Expiry.{expired}
use Rattle.participant.specs.declared.Participant.{Participant}
use Rattle.participant.specs.declared.call.Called.{Called}
use Rattle.participant.specs.Record.{set_clock, set_table}

-- An accepted call: what the participant becomes, and what the call gives beside it.
abbrev pub accepted_of : {T : Type 0} → Participant → T → Called T
accepted_of q x = record { participant = q; answer = Ok x }

abbrev pub done_of : Participant → Called (Unit {0})
done_of q = accepted_of q tt

-- "It carries only its number; the participant, its clock included, .. stay unchanged."
abbrev pub refused_of : {T : Type 0} → Participant → ℕ → Called T
refused_of p n = record { participant = p; answer = Err (refusal n) }

-- The first fact's number n refuses; 0 is none, and the call comes to r.
abbrev pub settled : {T : Type 0} → ℕ → Participant → Called T → Called T
settled n p r = cond (eqb n 0) r (refused_of p n)

abbrev pub settle_to : {T : Type 0} → Participant → List (ℕ × Bool) → Called T → Called T
settle_to p facts r = settled (first_of facts) p r

-- of a call that gives nothing: p becomes q
abbrev pub settle : Participant → List (ℕ × Bool) → Participant → Called (Unit {0})
settle p facts q = settle_to p facts (done_of q)

-- 1: "time earlier than the clock"
abbrev pub fact1 : Participant → ℕ → Bool
fact1 p time = ltb time p.clock

-- "Each timed call first expires"; "An accepted call sets the clock."
unfoldable pub aged_to : Participant → ℕ → Participant
aged_to p time = set_clock time (set_table (expired time p.table) p)
