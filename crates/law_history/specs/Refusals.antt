-- "A refusal has one number, in the order of SCOPE, and changes neither the participant nor one octet of a lent buffer": what that means of a call.
-- Proved in RefusalsArgument.
use Rattle.std.specs.Prelude.{ℕ, ◌≡◌, Bool, List, [], ◌∷◌, map, ◌↔◌}
use Rattle.std.proofs.Math.Option.{Option, none, some}
use Rattle.base_facts.specs.Refusal.{number_in}
use Rattle.participant.specs.declared.Participant.{Participant}
use Rattle.participant.specs.First.{NoneHolds, First}
use Rattle.law_history.specs.Calls.{Call, receives, sends, distributes, ticks, renews, reports, asks, saves, Answer, to_receive, to_send, to_call, to_ask, to_save, answer_of, answered}
use Rattle.law_history.specs.Steps.{facts}

-- The number that an answer carries, if it refuses.
abbrev pub refusal_in : Answer → Option ℕ
refusal_in (to_receive a) = number_in a
refusal_in (to_send a left) = number_in a
refusal_in (to_call a) = number_in a
refusal_in (to_ask p) = none
refusal_in (to_save a left) = number_in a

-- The numbers of a call's facts in their order: "Send: 1, 14, 13. Distribute: 1, 15, 17, 14."; the others by what they are about, lowest first.
abbrev pub order : Call → List ℕ
order (receives time verdict frame) = 1 ∷ 2 ∷ 3 ∷ 4 ∷ 5 ∷ 6 ∷ 7 ∷ 8 ∷ 9 ∷ 10 ∷ 11 ∷ 12 ∷ []
order (sends time latest_pn old_pn out) = 1 ∷ 14 ∷ 13 ∷ []
order (distributes time wrapped) = 1 ∷ 15 ∷ 17 ∷ 14 ∷ []
order (ticks time) = 1 ∷ []
order (renews time m) = 1 ∷ 19 ∷ []
order (reports m kn transmit) = 18 ∷ []
order asks = []
order (saves out) = 13 ∷ []

-- The octets lent to be written, and what an answer leaves there.
abbrev pub lent : Call → List ℕ
lent (receives time verdict frame) = []
lent (sends time latest_pn old_pn out) = out
lent (distributes time wrapped) = []
lent (ticks time) = []
lent (renews time m) = []
lent (reports m kn transmit) = []
lent asks = []
lent (saves out) = out

abbrev pub left_in : Answer → List ℕ
left_in (to_receive a) = []
left_in (to_send a left) = left
left_in (to_call a) = []
left_in (to_ask p) = []
left_in (to_save a left) = left

-- Each call has just these facts, in this order.
abbrev pub InOrder : Type 0
InOrder = (p : Participant) (c : Call) → map (λ (f : ℕ × Bool). f.0) (facts p c) ≡ order c

-- "Each is given exactly when its fact holds and no earlier one does."
abbrev pub RefusedExactly : Type 0
RefusedExactly = (p : Participant) (c : Call) (n : ℕ) → (refusal_in (answer_of p c) ≡ some n) ↔ First (facts p c) n

-- and a call is accepted exactly when none holds
abbrev pub AcceptedExactly : Type 0
AcceptedExactly = (p : Participant) (c : Call) → (refusal_in (answer_of p c) ≡ none) ↔ NoneHolds (facts p c)

-- "the participant, its clock included, .."
abbrev pub RefusedSame : Type 0
RefusedSame = (p : Participant) (c : Call) (n : ℕ) → refusal_in (answer_of p c) ≡ some n → answered p c ≡ p

-- ".. and every lent buffer stay unchanged"
abbrev pub RefusedLeft : Type 0
RefusedLeft = (p : Participant) (c : Call) (n : ℕ) → refusal_in (answer_of p c) ≡ some n → left_in (answer_of p c) ≡ lent c
