-- "Peer, 44: MI 12, MN 4, SCI 8, priority, flags (1 proof, 2 Key Server, 4 desired, 16 and 32 capability), 0 (2 octets), accepted 8, proof 8."
use Rattle.std.specs.Prelude.{ℕ, zero, suc, ◌+◌, ◌*◌, ◌/◌, ◌%◌, List, [], ◌∷◌, ◌++◌, Bool, true, ◌&&◌, get_or, eqb}
use Rattle.base_octets.specs.Number.{be_at, be_of}
use Rattle.base_octets.specs.Run.{runs_of}
use Rattle.base_mi.specs.Mi.{mi_at, mi_octets}
use Rattle.base_packed.specs.Bit.{bit}
use Rattle.table.specs.declared.Peer.{Peer}

-- "flags (1 proof, 2 Key Server, 4 desired, 16 and 32 capability)"
abbrev pub peer_flags : Peer → ℕ
peer_flags p = p.capability % 4 * 16 + bit p.desired * 4 + bit p.server * 2 + bit p.proven

unfoldable pub peer_octets : Peer → List ℕ
peer_octets p =
    mi_octets p.mi
    ++ (be_of 4 p.mn
    ++ (be_of 8 p.sci
    ++ ((p.priority ∷ peer_flags p ∷ [])
    ++ (be_of 2 0
    ++ (be_of 8 p.accepted ++ be_of 8 p.proof)))))

-- The octets of peers, in table order.
unfoldable pub peers_octets : List Peer → List ℕ
peers_octets l = runs_of peer_octets l

-- The peer that the 44 octets from `at` tell.
unfoldable pub peer_at : List ℕ → ℕ → Peer
peer_at s at =
    record {
      mi = mi_at s at;
      mn = be_at s (at + 12) 4;
      sci = be_at s (at + 16) 8;
      accepted = be_at s (at + 28) 8;
      proof = be_at s (at + 36) 8;
      priority = get_or s (at + 24) 0;
      capability = get_or s (at + 25) 0 / 16 % 4;
      server = eqb (get_or s (at + 25) 0 / 2 % 2) 1;
      desired = eqb (get_or s (at + 25) 0 / 4 % 2) 1;
      proven = eqb (get_or s (at + 25) 0 % 2) 1;
    }

-- "flags with no other bits"; "0 (2 octets)"
unfoldable pub peer_clean : List ℕ → ℕ → Bool
peer_clean s at = eqb (get_or s (at + 25) 0 / 8 % 2) 0 && (eqb (get_or s (at + 25) 0 / 64) 0 && eqb (be_at s (at + 26) 2) 0)

-- The n peers from `at`.
unfoldable pub peers_at : List ℕ → ℕ → ℕ → List Peer
peers_at s at zero = []
peers_at s at (suc n) = peer_at s at ∷ peers_at s (at + 44) n

unfoldable pub peers_clean : List ℕ → ℕ → ℕ → Bool
peers_clean s at zero = true
peers_clean s at (suc n) = peer_clean s at && peers_clean s (at + 44) n
