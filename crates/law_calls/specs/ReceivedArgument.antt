-- Why: by the definition of receiving; nothing that a frame makes of the keys touches the clock.
use Rattle.std.specs.Prelude.{ℕ, ◌≡◌, refl, Bool, true, false, cond, not, List, eqb, Option, Some, None}
use Rattle.std.proofs.Common.{ap, ◌∙◌, eq-eqb, ne_eqb}
use Rattle.base_mi.specs.declared.Mi.{Mi}
use Rattle.frame.specs.declared.Basic.{Basic}
use Rattle.frame_sets.specs.Kinds.{sak_in}
use Rattle.frame_places.specs.declared.Spot.{Spot}
use Rattle.frame_places.specs.declared.Places.{Places}
use Rattle.participant.specs.Call.{aged_to}
use Rattle.participant.specs.Keys.{with_key, without_keys}
use Rattle.participant.specs.declared.Participant.{Participant}
use Rattle.participant.proofs.Settle.{first_holds, none-holds}
use Rattle.call_judge.specs.Judge.{basic_in, walk_in, places_in, frame_facts}
use Rattle.call_hearing.specs.Keys.{is_server, is_known, keyed_of}
use Rattle.call_receive.specs.Receive.{table_facts, receive_facts, received_of}
use Rattle.call_accept.specs.Accept.{admitted, updated_by, accepted_by}
use Rattle.call_hearing.specs.Keys.{Keyed}
use Rattle.call_hearing.specs.declared.keys.Wrapped.{Wrapped}
use Rattle.participant.specs.declared.call.Called.{Called}
use Rattle.law_calls.specs.Received.{number, RefusedExactly, AcceptedExactly, RefusedFirst, ReceivedClock, AcceptedNone}

pub refused-exactly : RefusedExactly
unfolding received_of
refused-exactly p time verdict s h = rw (ne_eqb (number p time verdict s) 0 h)

pub accepted-exactly : AcceptedExactly
unfolding received_of
accepted-exactly p time verdict s e = rw (eq-eqb (number p time verdict s) 0 e)

pub refused-first : RefusedFirst
refused-first p time verdict s h = first_holds (receive_facts p time verdict s) h

cond-clock : (t : Bool) (x y : Keyed) (c : ℕ) → x.participant.clock ≡ c → y.participant.clock ≡ c → (cond t x y).participant.clock ≡ c
cond-clock true x y c h k = h
cond-clock false x y c h k = k

-- a Distributed SAK leaves the clock
keyed-clock : (p : Participant) (s : List ℕ) (m : Mi) (sak : Option Spot) → (keyed_of p s m sak).participant.clock ≡ p.clock
unfolding keyed_of with_key without_keys
keyed-clock p s m None = refl
keyed-clock p s m (Some sak) =
    cond-clock (not (is_server p m)) _ _ p.clock refl
    (cond-clock (eqb sak.len 0) _ _ p.clock refl
    (cond-clock (is_known p m (sak_in s sak.place sak.len).kn) _ _ p.clock refl refl))

accepted-clock : (p : Participant) (time : ℕ) (s : List ℕ) (b : Basic) (w : Places) → (accepted_by p time s b w).participant.clock ≡ time
unfolding accepted_by updated_by admitted aged_to
accepted-clock p time s b w = keyed-clock _ s b.mi w.sak

pub received-clock : ReceivedClock
received-clock p time verdict s e =
    ap (λ (r : Called Wrapped). r.participant.clock) (accepted-exactly p time verdict s e) ∙ accepted-clock p time s (basic_in s) (places_in (walk_in s))

pub accepted-none : AcceptedNone
unfolding receive_facts frame_facts table_facts
accepted-none p time verdict s e = none-holds (receive_facts p time verdict s) refl e
