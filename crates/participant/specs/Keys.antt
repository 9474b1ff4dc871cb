-- "Keys": at most two on record, latest and old.
use Rattle.std.specs.Prelude.{ℕ, Bool, true, false, ◌&&◌, eqb}
use Rattle.base_mi.specs.Mi.{mi_same}
use Rattle.base_mi.specs.declared.Mi.{Mi}
use Rattle.participant.specs.declared.Key.{Key}
use Rattle.participant.specs.declared.Slot.{Slot}
use Rattle.participant.specs.declared.Participant.{Participant}
use Rattle.participant.specs.Record.{set_latest, set_old}

abbrev pub blank_key : Key
blank_key = record { mi = record { hi = 0; lo = 0 }; kn = 0; suite = 0; an = 0; confidentiality = 0; receive = false; transmit = false }

unfoldable pub no_slot : Slot
no_slot = record { held = false; key = blank_key }

abbrev pub slot_of : Key → Slot
slot_of k = record { held = true; key = k }

-- the slot holds a key of member m
unfoldable pub of_member : Slot → Mi → Bool
of_member s m = s.held && mi_same s.key.mi m

-- the slot holds the key (m, kn)
unfoldable pub is_key : Slot → Mi → ℕ → Bool
is_key s m kn = of_member s m && eqb s.key.kn kn

-- "latest becomes old and this becomes latest"
unfoldable pub with_key : Participant → Key → Participant
with_key p k = set_latest (slot_of k) (set_old p.latest p)

-- "both keys dropped"
unfoldable pub without_keys : Participant → Participant
without_keys p = set_latest no_slot (set_old no_slot p)
