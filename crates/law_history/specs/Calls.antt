-- A history: a creation, then calls of any kind in any order; what each answers, and what the participant is after them.
use Rattle.std.specs.Prelude.{ℕ, ◌+◌, ◌≡◌, Bool, true, false, cond, List, [], ◌∷◌, ◌++◌, length, Result}
use Rattle.std.specs.Result.{is_ok}
use Rattle.std.proofs.Math.Option.{Option, none, some}
use Rattle.base_facts.specs.declared.Refusal.{Refusal}
use Rattle.base_mi.specs.declared.Mi.{Mi}
use Rattle.call_tick.specs.Tick.{ticked}
use Rattle.call_creation.specs.Create.{created_of}
use Rattle.call_distribute.specs.Distribute.{distributed_of}
use Rattle.call_new_mi.specs.Renew.{new_mi_of}
use Rattle.call_report.specs.Report.{reported}
use Rattle.participant.specs.declared.Participant.{Participant}
use Rattle.participant.specs.declared.call.Called.{Called}
use Rattle.call_judge.specs.Judge.{basic_in}
use Rattle.call_receive.specs.Receive.{received_of}
use Rattle.call_hearing.specs.declared.keys.Wrapped.{Wrapped}
use Rattle.call_send.specs.Send.{sent_of, left_by}
use Rattle.base_octets.specs.Run.{written}
use Rattle.frame_writer.specs.Frame.{wrote_of}
use Rattle.image.specs.Image.{image_of}

-- "Creating takes a time, MI, SCI, priority, capability, desired flag and CKN"
pub record Creation : Type 0 where
  pub time : ℕ
  pub mi : Mi
  pub sci : ℕ
  pub priority : ℕ
  pub capability : ℕ
  pub desired : Bool
  pub ckn : List ℕ

unfoldable pub created : Creation → Called (Unit {0})
created k = created_of k.time k.mi k.sci k.priority k.capability k.desired k.ckn

-- The calls with what the host gives: a time first, where the call has one.
pub data Call : Type 0 where
  -- the ICV's verdict, the frame
  receives : ℕ → Bool → List ℕ → Call
  -- the two lowest PNs, the lent octets
  sends : ℕ → ℕ → ℕ → List ℕ → Call
  -- the wrapped key
  distributes : ℕ → List ℕ → Call
  ticks : ℕ → Call
  renews : ℕ → Mi → Call
  -- MI, KN, and whether it is transmit that is reported
  reports : Mi → ℕ → Bool → Call
  asks : Call
  -- the lent octets
  saves : List ℕ → Call

-- What a call gives back, with what it leaves in lent octets. What a question shows is made of the participant.
pub data Answer : Type 0 where
  to_receive : Result Wrapped Refusal → Answer
  to_send : Result ℕ Refusal → List ℕ → Answer
  to_call : Result (Unit {0}) Refusal → Answer
  to_ask : Participant → Answer
  to_save : Result ℕ Refusal → List ℕ → Answer

abbrev pub answer_of : Participant → Call → Answer
answer_of p (receives time verdict frame) = to_receive (received_of p time verdict frame).answer
answer_of p (sends time latest_pn old_pn out) = to_send (sent_of p time latest_pn old_pn (length out)).answer (left_by p time latest_pn old_pn out)
answer_of p (distributes time wrapped) = to_call (distributed_of p time wrapped).answer
answer_of p (ticks time) = to_call (ticked p time).answer
answer_of p (renews time m) = to_call (new_mi_of p time m).answer
answer_of p (reports m kn transmit) = to_call (reported p m kn transmit).answer
answer_of p asks = to_ask p
answer_of p (saves out) = to_save (wrote_of (length (image_of p)) (length out)) (written out (image_of p))

-- The participant that a call gives back.
abbrev pub answered : Participant → Call → Participant
answered p (receives time verdict frame) = (received_of p time verdict frame).participant
answered p (sends time latest_pn old_pn out) = (sent_of p time latest_pn old_pn (length out)).participant
answered p (distributes time wrapped) = (distributed_of p time wrapped).participant
answered p (ticks time) = (ticked p time).participant
answered p (renews time m) = (new_mi_of p time m).participant
answered p (reports m kn transmit) = (reported p m kn transmit).participant
answered p asks = p
answered p (saves out) = p

-- "accepted": not refused.
abbrev pub is_accepted : Answer → Bool
is_accepted (to_receive a) = is_ok a
is_accepted (to_send a out) = is_ok a
is_accepted (to_call a) = is_ok a
is_accepted (to_ask p) = true
is_accepted (to_save a out) = is_ok a

abbrev pub accepts : Participant → Call → Bool
accepts p c = is_accepted (answer_of p c)

-- The participant after the calls, of which the first is the newest.
abbrev pub played : Participant → List Call → Participant
played p [] = p
played p (c ∷ cs) = answered (played p cs) c

abbrev pub after : Creation → List Call → Participant
after k cs = played (created k).participant cs

-- Whether a call made after the others is accepted.
abbrev pub accepted : Creation → List Call → Call → Bool
accepted k cs c = accepts (after k cs) c

-- What the accepted calls make of something, each of what the ones before it made.
abbrev pub folded {ℓ} : {A : Type ℓ} → Creation → (Participant → Call → A → A) → A → List Call → A
folded k step x [] = x
folded k step x (c ∷ cs) = cond (accepted k cs c) (step (after k cs) c (folded k step x cs)) (folded k step x cs)

-- "Receive, send, distribute, tick and taking a new MI carry a time"
abbrev pub time_of : Call → Option ℕ
time_of (receives time verdict frame) = some time
time_of (sends time latest_pn old_pn out) = some time
time_of (distributes time wrapped) = some time
time_of (ticks time) = some time
time_of (renews time m) = some time
time_of (reports m kn transmit) = none
time_of asks = none
time_of (saves out) = none

-- Our identifier: the one that was created with, or the last that was taken.
abbrev pub identifier_after : Call → Mi → Mi
identifier_after (receives time verdict frame) own = own
identifier_after (sends time latest_pn old_pn out) own = own
identifier_after (distributes time wrapped) own = own
identifier_after (ticks time) own = own
identifier_after (renews time m) own = m
identifier_after (reports m kn transmit) own = own
identifier_after asks own = own
identifier_after (saves out) own = own

abbrev pub identifier : Creation → List Call → Mi
identifier k cs = folded k (λ p. identifier_after) k.mi cs

-- The numbers sent under it since it was taken, newest first: those that stand in the frames that accepted sends wrote, read as
-- a peer reads them.
abbrev pub wrote : Participant → Call → List ℕ → List ℕ
wrote p (receives time verdict frame) ns = ns
wrote p (sends time latest_pn old_pn out) ns = (basic_in (left_by p time latest_pn old_pn out)).mn ∷ ns
wrote p (distributes time wrapped) ns = ns
wrote p (ticks time) ns = ns
wrote p (renews time m) ns = []
wrote p (reports m kn transmit) ns = ns
wrote p asks ns = ns
wrote p (saves out) ns = ns

abbrev pub numbers_sent : Creation → List Call → List ℕ
numbers_sent k cs = folded k wrote [] cs

-- The keys distributed since our identifier was taken.
abbrev pub handed : Call → ℕ → ℕ
handed (receives time verdict frame) n = n
handed (sends time latest_pn old_pn out) n = n
handed (distributes time wrapped) n = n + 1
handed (ticks time) n = n
handed (renews time m) n = 0
handed (reports m kn transmit) n = n
handed asks n = n
handed (saves out) n = n

abbrev pub keys_distributed : Creation → List Call → ℕ
keys_distributed k cs = folded k (λ p. handed) 0 cs

-- A call that was made and accepted: the calls after it, newest first, and the ones before it.
pub record Made (k : Creation) (cs : List Call) (c : Call) : Type 0 where
  pub later : List Call
  pub earlier : List Call
  pub split : cs ≡ later ++ (c ∷ earlier)
  pub done : accepted k earlier c ≡ true

-- No new identifier was taken in the calls that came after the others.
abbrev pub NoneTaken : Creation → List Call → List Call → Type 0
NoneTaken k later earlier = (ds es : List Call) (time : ℕ) (m : Mi) → later ≡ ds ++ (renews time m ∷ es) → accepted k (es ++ earlier) (renews time m) ≡ false
