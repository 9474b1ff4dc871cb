-- The same rules as the code goes through them: our record, each peer's against those behind it, the keys'.
use Rattle.std.specs.Prelude.{ℕ, Bool, true, cond, not, ◌&&◌, List, [], ◌∷◌, eqb, leb, ltb}
use Rattle.base_mi.specs.Mi.{mi_same}
use Rattle.base_mi.specs.declared.Mi.{Mi}
use Rattle.table.specs.declared.Peer.{Peer}
use Rattle.table_expiry.specs.Expiry.{fresh_peer}
use Rattle.table_expiry.specs.Kept.{only, fresh_proof, absent, has_number}
use Rattle.participant.specs.declared.Key.{Key}
use Rattle.participant.specs.declared.Slot.{Slot}
use Rattle.participant.specs.declared.Participant.{Participant}
use Rattle.image_rules.specs.Rules.{in_ranges, two_bits, use_good, unused_zero, own_timely, keys_distinct, key_numbered, within_ours}

unfoldable pub own_good : Participant → Bool
own_good p = in_ranges p && (unused_zero p && own_timely p)

-- A proof that is not after accepted is not after the clock either, nor is 0.
abbrev pub proof_good : Peer → Bool
proof_good q = cond q.proven (leb q.proof q.accepted) (eqb q.proof 0)

unfoldable pub times_good : ℕ → Peer → Bool
times_good clock q = leb q.accepted clock && (fresh_peer clock q && (fresh_proof clock q && proof_good q))

unfoldable pub peer_good : Mi → ℕ → Peer → Bool
peer_good own clock q = two_bits q && (times_good clock q && (has_number q && not (mi_same own q.mi)))

unfoldable pub peers_good : Mi → ℕ → List Peer → Bool
peers_good own clock [] = true
peers_good own clock (q ∷ qs) = peer_good own clock q && (absent q.mi qs && peers_good own clock qs)

abbrev pub number_good : Mi → ℕ → Key → Bool
number_good own kn k = key_numbered k && within_ours own kn k

unfoldable pub key_good : Mi → ℕ → Key → Bool
key_good own kn k = ltb k.an 4 && (ltb k.confidentiality 4 && (use_good k && number_good own kn k))

unfoldable pub slot_good : Mi → ℕ → Slot → Bool
slot_good own kn s = only s.held (key_good own kn s.key)

unfoldable pub keys_good : Participant → Bool
keys_good p =
    slot_good p.mi p.kn p.latest
    && (slot_good p.mi p.kn p.old
    && keys_distinct p)
