-- 1. "Any octets, at any time value, in any order of calls, get an answer. Every call checks its own arguments. A refusal has one number,
-- in the order of SCOPE, and changes neither the participant nor one octet of a lent buffer."
use Rattle.std.specs.Prelude.{ℕ, ◌≡◌, Bool, not, List, [], ◌∷◌, map, ◌↔◌, length}
use Rattle.std.proofs.Math.Option.{none, some}
use Rattle.base_facts.specs.Refusal.{number_in}
use Rattle.base_mi.specs.declared.Mi.{Mi}
use Rattle.frame.specs.Basic.{body_len, basic_len, fact2, fact3, fact4, fact5, basic_of}
use Rattle.participant.specs.declared.Participant.{Participant}
use Rattle.participant.specs.First.{NoneHolds, First}
use Rattle.call_creation.specs.Create.{bad_start}
use Rattle.image_reading.specs.Read.{well_formed, read_of}
use Rattle.law_history.specs.Calls.{Creation, created, Call, receives, sends, distributes, ticks, renews, reports, asks, saves, answer_of, answered}
use Rattle.law_history.specs.Steps.{facts}
use Rattle.law_history.specs.Refusals.{refusal_in, lent, left_in}
use Rattle.law_history.proofs.RefusalsArgument as refusals
use Rattle.law_reached.proofs.AloneArgument as alone

-- the numbers of a call's facts, in their order
abbrev numbers : Participant → Call → List ℕ
numbers p c = map (λ (f : ℕ × Bool). f.0) (facts p c)

-- Of every participant and every call, whatever octets, time and numbers it carries.
pub record One : Type 0 where
  -- the facts of each call
  pub receive : (p : Participant) (time : ℕ) (verdict : Bool) (frame : List ℕ) → numbers p (receives time verdict frame) ≡ 1 ∷ 2 ∷ 3 ∷ 4 ∷ 5 ∷ 6 ∷ 7 ∷ 8 ∷ 9 ∷ 10 ∷ 11 ∷ 12 ∷ []
  pub send : (p : Participant) (time latest_pn old_pn : ℕ) (out : List ℕ) → numbers p (sends time latest_pn old_pn out) ≡ 1 ∷ 14 ∷ 13 ∷ []
  pub distribute : (p : Participant) (time : ℕ) (wrapped : List ℕ) → numbers p (distributes time wrapped) ≡ 1 ∷ 15 ∷ 17 ∷ 14 ∷ []
  pub tick : (p : Participant) (time : ℕ) → numbers p (ticks time) ≡ 1 ∷ []
  pub new-mi : (p : Participant) (time : ℕ) (m : Mi) → numbers p (renews time m) ≡ 1 ∷ 19 ∷ []
  pub report : (p : Participant) (m : Mi) (kn : ℕ) (transmit : Bool) → numbers p (reports m kn transmit) ≡ 18 ∷ []
  pub ask : (p : Participant) → numbers p asks ≡ []
  pub save : (p : Participant) (out : List ℕ) → numbers p (saves out) ≡ 13 ∷ []
  -- the answer is the first of its facts that holds, in this order, or acceptance
  pub refused : (p : Participant) (c : Call) (n : ℕ) → (refusal_in (answer_of p c) ≡ some n) ↔ First (facts p c) n
  pub accepted : (p : Participant) (c : Call) → (refusal_in (answer_of p c) ≡ none) ↔ NoneHolds (facts p c)
  -- "and changes neither the participant nor one octet of a lent buffer"
  pub same : (p : Participant) (c : Call) (n : ℕ) → refusal_in (answer_of p c) ≡ some n → answered p c ≡ p
  pub left : (p : Participant) (c : Call) (n : ℕ) → refusal_in (answer_of p c) ≡ some n → left_in (answer_of p c) ≡ lent c
  -- the calls that need no participant: creating, reading an image, the sets of a frame
  pub create : (k : Creation) (n : ℕ) → (number_in (created k).answer ≡ some n) ↔ First ((15, bad_start (length k.ckn) k.capability) ∷ []) n
  pub read : (s : List ℕ) (n : ℕ) → (number_in (read_of s).answer ≡ some n) ↔ First ((16, not (well_formed s)) ∷ []) n
  pub sets : (s : List ℕ) (n : ℕ) → (number_in (basic_of s) ≡ some n)
      ↔ First ((2, fact2 s) ∷ (3, fact3 s) ∷ (4, fact4 (body_len s)) ∷ (5, fact5 (basic_len s) (body_len s)) ∷ []) n

pub one : One
one =
    record {
      receive = λ p time verdict frame. refusals.in_order p (receives time verdict frame);
      send = λ p time latest_pn old_pn out. refusals.in_order p (sends time latest_pn old_pn out);
      distribute = λ p time wrapped. refusals.in_order p (distributes time wrapped);
      tick = λ p time. refusals.in_order p (ticks time);
      new-mi = λ p time m. refusals.in_order p (renews time m);
      report = λ p m kn transmit. refusals.in_order p (reports m kn transmit);
      ask = λ p. refusals.in_order p asks;
      save = λ p out. refusals.in_order p (saves out);
      refused = refusals.refused-exactly;
      accepted = refusals.accepted-exactly;
      same = refusals.refused-same;
      left = refusals.refused-left;
      create = alone.create-refused;
      read = alone.read-refused;
      sets = alone.sets-refused;
    }
