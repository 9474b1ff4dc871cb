-- "Own, 116: MI 12, MN 4, SCI 8, priority, capability, desired, mark, clock 8, last send 8, KN 4, last distribution 8, CKN length 4, CKN 32, wrapped key 24."
use Rattle.std.specs.Prelude.{ℕ, ◌+◌, min, List, [], ◌∷◌, ◌++◌, Bool, ◌&&◌, get_or, eqb, leb}
use Rattle.base_octets.specs.Number.{be_at, be_of}
use Rattle.base_octets.specs.Run.{part_of}
use Rattle.base_mi.specs.Mi.{mi_at, mi_octets}
use Rattle.base_packed.specs.Bit.{bit}
use Rattle.table.specs.Table.{empty_table}
use Rattle.participant.specs.declared.Participant.{Participant}
use Rattle.participant.specs.Record.{first32, first24}
use Rattle.participant.specs.Keys.{no_slot}

-- "MI 12, MN 4, SCI 8, priority, capability, desired, mark"
unfoldable pub named_octets : Participant → List ℕ
named_octets p =
    mi_octets p.mi
    ++ (be_of 4 p.mn
    ++ (be_of 8 p.sci
    ++ (p.priority ∷ p.capability ∷ bit p.desired ∷ bit p.mark ∷ [])))

-- "clock 8, last send 8, KN 4, last distribution 8"
unfoldable pub times_octets : Participant → List ℕ
times_octets p = be_of 8 p.clock ++ (be_of 8 p.sent ++ (be_of 4 p.kn ++ be_of 8 p.distributed))

-- "CKN length 4, CKN 32, wrapped key 24". A length above 32 is taken as 32.
unfoldable pub kept_octets : Participant → List ℕ
kept_octets p = be_of 4 (min p.size 32) ++ (p.ckn ++ p.wrapped)

unfoldable pub own_octets : Participant → List ℕ
own_octets p = named_octets p ++ (times_octets p ++ kept_octets p)

-- The participant that the 116 octets from `at` tell, without peers and keys.
unfoldable pub own_at : List ℕ → ℕ → Participant
own_at s at =
    record {
      mi = mi_at s at;
      mn = be_at s (at + 12) 4;
      sci = be_at s (at + 16) 8;
      priority = get_or s (at + 24) 0;
      capability = get_or s (at + 25) 0;
      desired = eqb (get_or s (at + 26) 0) 1;
      mark = eqb (get_or s (at + 27) 0) 1;
      clock = be_at s (at + 28) 8;
      sent = be_at s (at + 36) 8;
      kn = be_at s (at + 44) 4;
      distributed = be_at s (at + 48) 8;
      size = be_at s (at + 56) 4;
      ckn = first32 (part_of s (at + 60) 32);
      wrapped = first24 (part_of s (at + 92) 24);
      table = empty_table;
      latest = no_slot;
      old = no_slot;
    }

-- "desired and mark 0 or 1"
unfoldable pub own_clean : List ℕ → ℕ → Bool
own_clean s at = leb (get_or s (at + 26) 0) 1 && leb (get_or s (at + 27) 0) 1
