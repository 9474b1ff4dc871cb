-- What an accepted call makes of each part of the participant.
use Rattle.std.specs.Prelude.{ℕ, ◌+◌, ◌≤◌, ◌≡◌, refl, Bool, true, false, List, eqb}
use Rattle.std.proofs.Math.Path.{ap}
use Rattle.std.specs.Prelude.{Some, None}
use Rattle.std.specs.Prelude as prelude
use Rattle.std.proofs.Math.Option.{Option, none, some}
use Rattle.std.proofs.Common.{arith, ltb-false}
use Rattle.base_mi.specs.declared.Mi.{Mi}
use Rattle.frame_sets.specs.Kinds.{sak_in}
use Rattle.frame_places.specs.declared.Spot.{Spot}
use Rattle.table_expiry.specs.Expiry.{expired}
use Rattle.table_enter.specs.Enter.{entered}
use Rattle.law_lists.proofs.Laws.{by_cases}
use Rattle.participant.specs.Call.{aged_to}
use Rattle.participant.specs.Record.{set_latest, set_old}
use Rattle.call_new_mi.specs.Renew.{renewed}
use Rattle.call_distribute.specs.Distribute.{with_fresh}
use Rattle.participant.specs.Keys.{with_key, without_keys}
use Rattle.participant.specs.declared.Participant.{Participant}
use Rattle.participant.specs.First.{NoneHolds}
use Rattle.call_judge.specs.Judge.{basic_in, walk_in, places_in, frame_facts}
use Rattle.call_hearing.specs.Keys.{is_server, is_known, key_from, keyed_of}
use Rattle.call_hearing.specs.Proof.{proves_in}
use Rattle.call_receive.specs.Receive.{receive_facts}
use Rattle.call_accept.specs.Accept.{heard_of, admitted, updated_by, accepted_by}
use Rattle.call_send.specs.Send.{send_facts, sent_at}
use Rattle.law_history.specs.Calls.{Call, receives, sends, distributes, ticks, renews, reports, asks, saves, time_of, identifier_after, handed}
use Rattle.law_history.specs.Steps.{facts, becomes}

-- ---- a Distributed SAK: ignored, both keys dropped, or a key entered

module _ (q : Participant) (s : List ℕ) (m : Mi) where
  pub by-keyed {ℓ} : {C : Type ℓ} (sak : prelude.Option Spot)
      → ((keyed_of q s m sak).participant ≡ q → C)
      → ((keyed_of q s m sak).participant ≡ without_keys q → C)
      → ((spot : Spot) → sak ≡ Some spot → is_server q m ≡ true → eqb spot.len 0 ≡ false → (keyed_of q s m sak).participant ≡ with_key q (key_from m (sak_in s spot.place spot.len)) → C)
      → C
  unfolding keyed_of
  by-keyed None same dropped entered = same refl
  by-keyed (Some spot) same dropped entered =
      by_cases (is_server q m)
      (λ b. by_cases (eqb spot.len 0)
      (λ d. dropped (rw (b, d)))
      (λ d. by_cases (is_known q m (sak_in s spot.place spot.len).kn)
      (λ e. same (rw (b, d, e)))
      (λ e. entered spot refl b d (rw (b, d, e)))))
      (λ b. same (rw b))

  -- nothing but the keys
  pub keyed-leaves : (sak : prelude.Option Spot) → let x = (keyed_of q s m sak).participant in x ≡ set_latest x.latest (set_old x.old q)
  unfolding with_key without_keys
  keyed-leaves sak =
      by-keyed sak
      (λ e. rw e)
      (λ e. rw e)
      (λ spot a b d e. rw e)

-- the sender entered or updated
abbrev pub updated_in : Participant → ℕ → List ℕ → Participant
updated_in p time frame = updated_by p time frame (basic_in frame) (places_in (walk_in frame))

-- whether the frame is a proof, by our identifier and the last number sent
abbrev pub proves : Participant → List ℕ → Bool
proves p frame = proves_in frame (places_in (walk_in frame)) p.mi p.mn

module _ (p : Participant) (time : ℕ) (verdict : Bool) (frame : List ℕ) where
  pub received-leaves : let x = becomes p (receives time verdict frame) in x ≡ set_latest x.latest (set_old x.old (updated_in p time frame))
  unfolding accepted_by
  received-leaves = keyed-leaves (updated_in p time frame) frame (basic_in frame).mi (places_in (walk_in frame)).sak

  pub received-table : (becomes p (receives time verdict frame)).table ≡ entered (heard_of (basic_in frame)) (proves p frame) time (expired time p.table)
  unfolding updated_by admitted aged_to entered heard_of
  received-table = ap (λ (q : Participant). q.table) received-leaves

-- ---- the numbers of the participant

-- a time, or the clock where there is none
abbrev pub time_or : Option ℕ → ℕ → ℕ
time_or none clock = clock
time_or (some time) clock = time

-- "MN rises by 1", "A new MI .. sets MN and KN to 0"
abbrev pub counted : Call → ℕ → ℕ
counted (receives time verdict frame) n = n
counted (sends time latest_pn old_pn out) n = n + 1
counted (distributes time wrapped) n = n
counted (ticks time) n = n
counted (renews time m) n = 0
counted (reports m kn transmit) n = n
counted asks n = n
counted (saves out) n = n

pub record Effect (p : Participant) (c : Call) (q : Participant) : Type 0 where
  pub mi : q.mi ≡ identifier_after c p.mi
  -- "An accepted call sets the clock."
  pub clock : q.clock ≡ time_or (time_of c) p.clock
  pub mn : q.mn ≡ counted c p.mn
  pub kn : q.kn ≡ handed c p.kn
  pub capability : q.capability ≡ p.capability

received-effect : (p : Participant) (time : ℕ) (verdict : Bool) (frame : List ℕ) → Effect p (receives time verdict frame) (becomes p (receives time verdict frame))
unfolding updated_by admitted aged_to
received-effect p time verdict frame =
    let e = received-leaves p time verdict frame in
    record {
      mi = ap (λ (q : Participant). q.mi) e;
      clock = ap (λ (q : Participant). q.clock) e;
      mn = ap (λ (q : Participant). q.mn) e;
      kn = ap (λ (q : Participant). q.kn) e;
      capability = ap (λ (q : Participant). q.capability) e;
    }

pub effect : (p : Participant) (c : Call) → Effect p c (becomes p c)
unfolding sent_at aged_to with_fresh with_key renewed
effect p (receives time verdict frame) = received-effect p time verdict frame
effect p (sends time latest_pn old_pn out) = record { mi = refl; clock = refl; mn = refl; kn = refl; capability = refl }
effect p (distributes time wrapped) = record { mi = refl; clock = refl; mn = refl; kn = refl; capability = refl }
effect p (ticks time) = record { mi = refl; clock = refl; mn = refl; kn = refl; capability = refl }
effect p (renews time m) = record { mi = refl; clock = refl; mn = refl; kn = refl; capability = refl }
effect p (reports m kn transmit) = record { mi = refl; clock = refl; mn = refl; kn = refl; capability = refl }
effect p asks = record { mi = refl; clock = refl; mn = refl; kn = refl; capability = refl }
effect p (saves out) = record { mi = refl; clock = refl; mn = refl; kn = refl; capability = refl }

-- fact 1: a time that is accepted is not before the clock
pub not-before : (p : Participant) (c : Call) → NoneHolds (facts p c) → p.clock ≤ time_or (time_of c) p.clock
unfolding receive_facts frame_facts send_facts
not-before p (receives time verdict frame) h = ltb-false time p.clock h.0
not-before p (sends time latest_pn old_pn out) h = ltb-false time p.clock h.0
not-before p (distributes time wrapped) h = ltb-false time p.clock h.0
not-before p (ticks time) h = ltb-false time p.clock h.0
not-before p (renews time m) h = ltb-false time p.clock h.0
not-before p (reports m kn transmit) h = omega arith
not-before p asks h = omega arith
not-before p (saves out) h = omega arith
