-- "Key, 28, latest first: MI 12, KN 4, AN, flags (1 receive, 2 transmit), confidentiality, 0, suite 8 (0 for a 28 body)."
use Rattle.std.specs.Prelude.{ℕ, ◌+◌, ◌*◌, ◌/◌, ◌%◌, List, [], ◌∷◌, ◌++◌, Bool, true, cond, ◌&&◌, get_or, eqb, ltb}
use Rattle.base_octets.specs.Number.{be_at, be_of}
use Rattle.base_mi.specs.Mi.{mi_at, mi_octets}
use Rattle.base_packed.specs.Bit.{bit}
use Rattle.participant.specs.declared.Key.{Key}
use Rattle.participant.specs.declared.Slot.{Slot}
use Rattle.participant.specs.Keys.{no_slot, slot_of}

-- "flags (1 receive, 2 transmit)"
abbrev pub key_flags : Key → ℕ
key_flags k = bit k.transmit * 2 + bit k.receive

unfoldable pub key_octets : Key → List ℕ
key_octets k = mi_octets k.mi ++ (be_of 4 k.kn ++ ((k.an ∷ key_flags k ∷ k.confidentiality ∷ 0 ∷ []) ++ be_of 8 k.suite))

-- The octets of what a slot holds.
abbrev pub slot_octets : Slot → List ℕ
slot_octets s = cond s.held (key_octets s.key) []

-- The key that the 28 octets from `at` tell.
unfoldable pub key_at : List ℕ → ℕ → Key
key_at s at =
    record {
      mi = mi_at s at;
      kn = be_at s (at + 12) 4;
      suite = be_at s (at + 20) 8;
      an = get_or s (at + 16) 0;
      confidentiality = get_or s (at + 18) 0;
      receive = eqb (get_or s (at + 17) 0 % 2) 1;
      transmit = eqb (get_or s (at + 17) 0 / 2 % 2) 1;
    }

-- "flags with no other bits"; "0"
unfoldable pub key_clean : List ℕ → ℕ → Bool
key_clean s at = ltb (get_or s (at + 17) 0) 4 && eqb (get_or s (at + 19) 0) 0

-- The slot of the key at `at`, if there is one.
unfoldable pub slot_at : List ℕ → ℕ → Bool → Slot
slot_at s at there = cond there (slot_of (key_at s at)) no_slot

unfoldable pub slot_clean : List ℕ → ℕ → Bool → Bool
slot_clean s at there = cond there (key_clean s at) true
