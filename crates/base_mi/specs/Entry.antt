-- "MI 12, MN 4, repeated": one entry of a peer list, and up to 16 of them.
use Rattle.std.specs.Prelude.{ℕ, zero, suc, ◌+◌, min, List, [], ◌∷◌, ◌++◌, get_or, take}
use Rattle.base_octets.specs.Number.{be_at, be_of}
use Rattle.base_mi.specs.Mi.{mi_at, mi_octets}
use Rattle.base_mi.specs.declared.entry.Entry.{Entry}
use Rattle.base_mi.specs.declared.entry.Entries.{Entries}

-- The n octets from `at`. Past the end an octet counts as 0.
unfoldable pub cut_at : List ℕ → ℕ → ℕ → List ℕ
cut_at s at zero = []
cut_at s at (suc n) = cut_at s at n ++ (get_or s (at + n) 0 ∷ [])

-- The entry that the 16 octets from `at` make.
unfoldable pub entry_at : List ℕ → ℕ → Entry
entry_at s at = record { mi = mi_at s at; mn = be_at s (at + 12) 4 }

-- Its 16 octets.
unfoldable pub entry_octets : Entry → List ℕ
entry_octets e = mi_octets e.mi ++ be_of 4 e.mn

-- The entries that a value of up to 16 holds.
abbrev pub entries_of : Entries → List Entry
entries_of l = take (min l.count 16) l.entries
