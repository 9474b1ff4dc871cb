-- "A type 4 set is used only if its sender is elected after this frame's update; otherwise it is ignored and the frame still accepted."
use Rattle.std.specs.Prelude.{ℕ, Bool, false, cond, not, ◌||◌, ◌&&◌, List, ltb, eqb, Option, Some, None}
use Rattle.base_mi.specs.Mi.{mi_same}
use Rattle.base_mi.specs.declared.Mi.{Mi}
use Rattle.table_election.specs.declared.Server.{Server}
use Rattle.table_election.specs.declared.Server.TheVariants.{Nobody, Ourselves, Elected}
use Rattle.frame_sets.specs.Kinds.{sak_in}
use Rattle.frame_sets.specs.declared.kinds.SakHeader.{SakHeader}
use Rattle.frame_places.specs.declared.Spot.{Spot}
use Rattle.call_standing.specs.Standing.{server_of}
use Rattle.participant.specs.Keys.{no_slot, slot_of, of_member, is_key, with_key, without_keys}
use Rattle.participant.specs.declared.Key.{Key}
use Rattle.participant.specs.declared.Slot.{Slot}
use Rattle.participant.specs.declared.Participant.{Participant}
use Rattle.call_hearing.specs.declared.keys.Wrapped.{Wrapped}
use Rattle.call_hearing.specs.declared.keys.Taken.{Taken}

-- the elected one is the peer m
abbrev pub is_peer : Server → Mi → Bool
is_peer Nobody m = false
is_peer Ourselves m = false
is_peer (Elected x) m = mi_same x m

unfoldable pub is_server : Participant → Mi → Bool
is_server p m = is_peer (server_of p) m

-- "(MI, KN) is that of either key, or MI is the latest's and KN is lower"
abbrev pub known_by : Slot → Slot → Mi → ℕ → Bool
known_by latest old m kn = is_key latest m kn || (is_key old m kn || (of_member latest m && ltb kn latest.key.kn))

unfoldable pub is_known : Participant → Mi → ℕ → Bool
is_known p m kn = known_by p.latest p.old m kn

-- "this becomes latest, neither received nor sent with"; its MI is the sender's
unfoldable pub key_from : Mi → SakHeader → Key
key_from m h =
    record {
      mi = m;
      kn = h.kn;
      suite = h.suite;
      an = h.an;
      confidentiality = h.confidentiality;
      receive = false;
      transmit = false;
    }

-- "0 and 0 if no key was entered"
abbrev pub no_key : Wrapped
no_key = record { place = 0; len = 0 }

-- "The answer gives the wrapped key's place and length"
abbrev pub wrapped_in : SakHeader → Wrapped
wrapped_in h = record { place = h.place; len = h.len }

-- What the participant becomes, and the wrapped key's place and length.
pub record Keyed : Type 0 where
  pub participant : Participant
  pub wrapped : Wrapped

abbrev pub no_key_entered : Participant → Keyed
no_key_entered p = record { participant = p; wrapped = no_key }

abbrev pub key_entered : Participant → Mi → SakHeader → Keyed
key_entered p m h = record { participant = with_key p (key_from m h); wrapped = wrapped_in h }

-- "Empty body: both keys dropped. Otherwise it is ignored if ..; else latest becomes old and this becomes latest"
unfoldable pub keyed_of : Participant → List ℕ → Mi → Option Spot → Keyed
keyed_of p s m None = no_key_entered p
keyed_of p s m (Some sak) =
    cond (not (is_server p m)) (no_key_entered p)
    (cond (eqb sak.len 0) (no_key_entered (without_keys p))
    (cond (is_known p m (sak_in s sak.place sak.len).kn) (no_key_entered p)
    (key_entered p m (sak_in s sak.place sak.len))))

-- ---- the same of the two keys by themselves, with who is elected (the law is `keyed-taken`, proofs/Taken)

-- No key entered: the slots as given, "0 and 0".
abbrev pub none_taken : Slot → Slot → Taken
none_taken latest old = record { latest = latest; old = old; wrapped = no_key }

unfoldable pub taken_of : Server → Slot → Slot → List ℕ → Mi → Option Spot → Taken
taken_of server latest old s m None = none_taken latest old
taken_of server latest old s m (Some sak) =
    cond (not (is_peer server m)) (none_taken latest old)
    (cond (eqb sak.len 0) (none_taken no_slot no_slot)
    (cond (known_by latest old m (sak_in s sak.place sak.len).kn) (none_taken latest old)
    (record { latest = slot_of (key_from m (sak_in s sak.place sak.len)); old = latest; wrapped = wrapped_in (sak_in s sak.place sak.len) })))
