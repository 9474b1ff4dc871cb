-- "Well formed", phrase by phrase in its order, as far as it goes for what a participant holds. What goes for the octets ("this layout",
-- "flags with no other bits; desired and mark 0 or 1", "peers at most 16") is in image_reading.
use Rattle.std.specs.Prelude.{ℕ, Bool, not, ◌&&◌, List, drop, eqb, leb, ltb}
use Rattle.base_mi.specs.Mi.{mi_same}
use Rattle.base_mi.specs.declared.Mi.{Mi}
use Rattle.law_lists.specs.Lists.{every}
use Rattle.table.specs.Table.{entries}
use Rattle.table.specs.declared.Peer.{Peer}
use Rattle.table_expiry.specs.Kept.{only, peer_rules}
use Rattle.call_creation.specs.Create.{bad_start}
use Rattle.participant.specs.Keys.{is_key}
use Rattle.participant.specs.declared.Key.{Key}
use Rattle.participant.specs.declared.Participant.{Participant}

-- "the creating ranges"
abbrev pub in_ranges : Participant → Bool
in_ranges p = not (bad_start p.size p.capability)

-- A peer's capability is two bits of its flags.
abbrev pub two_bits : Peer → Bool
two_bits q = ltb q.capability 4

-- Of each key on record.
abbrev pub every_key : (Key → Bool) → Participant → Bool
every_key f p = only p.latest.held (f p.latest.key) && only p.old.held (f p.old.key)

-- "AN and confidentiality under 4"
abbrev pub under_four : Key → Bool
under_four k = ltb k.an 4 && ltb k.confidentiality 4

-- "transmit only with receive"
abbrev pub use_good : Key → Bool
use_good k = only k.transmit k.receive

abbrev pub zeros : List ℕ → Bool
zeros l = every (λ (x : ℕ). eqb x 0) l

-- "MN 0 means last send 0"
abbrev pub unsent_zero : ℕ → ℕ → Bool
unsent_zero mn sent = only (eqb mn 0) (eqb sent 0)

-- "KN 0 means distribution and wrapped key 0"
abbrev pub undistributed_zero : ℕ → ℕ → List ℕ → Bool
undistributed_zero kn distributed wrapped = only (eqb kn 0) (eqb distributed 0 && zeros wrapped)

-- "zero in each unused place": these, and past the CKN's length
unfoldable pub unused_zero : Participant → Bool
unused_zero p =
    unsent_zero p.mn p.sent
    && (undistributed_zero p.kn p.distributed p.wrapped
    && zeros (drop p.size p.ckn))

-- "times not after the clock", ours
abbrev pub own_timely : Participant → Bool
own_timely p = leb p.sent p.clock && leb p.distributed p.clock

-- From "no proof means proof time 0" to "peers .. MN not 0" it is `peer_rules`. "keys distinct"
abbrev pub keys_distinct : Participant → Bool
keys_distinct p = not (p.latest.held && is_key p.old p.latest.key.mi p.latest.key.kn)

-- "KN not 0"
abbrev pub key_numbered : Key → Bool
key_numbered k = not (eqb k.kn 0)

-- "nor above ours under our MI"
abbrev pub within_ours : Mi → ℕ → Key → Bool
within_ours own kn k = only (mi_same own k.mi) (leb k.kn kn)

unfoldable pub rules : Participant → Bool
rules p =
    in_ranges p
    && (every two_bits (entries p.table)
    && (every_key under_four p
    && (every_key use_good p
    && (unused_zero p
    && (own_timely p
    && (peer_rules p.mi p.clock (entries p.table)
    && (keys_distinct p
    && (every_key key_numbered p
    && every_key (within_ours p.mi p.kn) p))))))))
