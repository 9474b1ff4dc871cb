-- Reading an image back: "this layout" and every rule, or 16. "Reading is for showing, not resuming."
use Rattle.std.specs.Prelude.{ℕ, ◌+◌, ◌*◌, min, Bool, not, ◌&&◌, List, [], ◌∷◌, eqb, leb, ltb}
use Rattle.table.specs.Table.{table_of}
use Rattle.participant.specs.Record.{set_table, set_latest, set_old}
use Rattle.participant.specs.Call.{settle}
use Rattle.call_creation.specs.Create.{empty_participant}
use Rattle.participant.specs.declared.Participant.{Participant}
use Rattle.participant.specs.declared.call.Called.{Called}
use Rattle.image_layout.specs.Layout.{records_at, offset_at, laid_out}
use Rattle.image_own.specs.Own.{own_at, own_clean}
use Rattle.image_peer.specs.Peer.{peers_at, peers_clean}
use Rattle.image_key.specs.Key.{slot_at, slot_clean}
use Rattle.image_rules.specs.Rules.{rules}

-- "Own, 116", "Peer, 44", "Key, 28"
abbrev pub sizes : List ℕ
sizes = 116 ∷ 44 ∷ 28 ∷ []

-- One own record; "peers at most 16"; "at most .. 2 keys"
unfoldable pub numbers_good : List ℕ → Bool
numbers_good s = eqb (records_at s 0) 1 && (leb (records_at s 1) 16 && leb (records_at s 2) 2)

-- Where a key's record stands: 0 is the latest's, 1 the old one's.
abbrev pub key_place : List ℕ → ℕ → ℕ
key_place s i = offset_at s 2 + i * 28

-- "flags with no other bits; desired and mark 0 or 1", and zero in the places that a record leaves
unfoldable pub clean : List ℕ → Bool
clean s =
    own_clean s (offset_at s 0)
    && (peers_clean s (offset_at s 1) (records_at s 1)
    && (slot_clean s (key_place s 0) (ltb 0 (records_at s 2)) && slot_clean s (key_place s 1) (ltb 1 (records_at s 2))))

-- What an image tells.
unfoldable pub told_by : List ℕ → Participant
told_by s =
    set_table (table_of (peers_at s (offset_at s 1) (min (records_at s 1) 16)))
    (set_latest (slot_at s (key_place s 0) (ltb 0 (records_at s 2)))
    (set_old (slot_at s (key_place s 1) (ltb 1 (records_at s 2)))
    (own_at s (offset_at s 0))))

-- "Well formed"
unfoldable pub well_formed : List ℕ → Bool
well_formed s = laid_out s sizes && (numbers_good s && (clean s && rules (told_by s)))

-- Read: 16.
unfoldable pub read_of : List ℕ → Called (Unit {0})
read_of s = settle empty_participant ((16, not (well_formed s)) ∷ []) (told_by s)
