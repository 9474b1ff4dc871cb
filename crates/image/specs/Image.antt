-- "Port image": the octets of a participant's image.
use Rattle.std.specs.Prelude.{ℕ, ◌+◌, ◌*◌, List, [], ◌∷◌, ◌++◌, length}
use Rattle.base_packed.specs.Bit.{bit}
use Rattle.table.specs.Table.{entries}
use Rattle.participant.specs.declared.Participant.{Participant}
use Rattle.image_layout.specs.Layout.{Part, contents_head, contents_entry, laid_of}
use Rattle.image_own.specs.Own.{own_octets}
use Rattle.image_peer.specs.Peer.{peers_octets}
use Rattle.image_key.specs.Key.{slot_octets}

-- Kind 1: one own record.
unfoldable pub own_part : Participant → Part
own_part p = record { records = 1; body = own_octets p }

-- Kind 2: the peers, in table order.
unfoldable pub peers_part : Participant → Part
peers_part p = record { records = length (entries p.table); body = peers_octets (entries p.table) }

-- Kind 3: the keys, "latest first".
unfoldable pub keys_part : Participant → Part
keys_part p =
    record {
      records = bit p.latest.held + bit p.old.held;
      body = slot_octets p.latest ++ slot_octets p.old;
    }

-- The contents table of an image with n peers and k keys.
unfoldable pub contents_for : ℕ → ℕ → List ℕ
contents_for n k = contents_head 3 ++ (contents_entry 1 1 28 ++ (contents_entry 2 n 144 ++ contents_entry 3 k (144 + n * 44)))

unfoldable pub image_of : Participant → List ℕ
image_of p = laid_of (own_part p ∷ peers_part p ∷ keys_part p ∷ [])
