-- The entries of a peer list, and the search for an identifier among them.
use Rattle.std.specs.Prelude.{ℕ, zero, suc, ◌+◌, ◌/◌, [], ◌∷◌, cond, length, drop, ltb, Option, Some, None}
use mathlib.Core.List as core
use Rattle.base_mi.specs.Mi.{mi_same}
use Rattle.base_mi.specs.Entry.{entry_at}
use Rattle.base_mi.specs.declared.Mi.{Mi}
use Rattle.base_mi.specs.declared.entry.Entry.{Entry}
use Rattle.frame_walk.specs.declared.list.Found.{Found}

-- "MI 12, MN 4, repeated": n entries from p on
unfoldable pub entries_from : ℕ → core.List ℕ → ℕ → core.List Entry
entries_from zero s p = []
entries_from (suc n) s p = entry_at s p ∷ entries_from n s (p + 16)

-- The entries of the list with a body of `len` octets whose header stands at `place`.
unfoldable pub list_at : core.List ℕ → ℕ → ℕ → core.List Entry
list_at s place len = entries_from (len / 16) s (place + 4)

-- The first entry with the identifier m; the entries are numbered from i on.
abbrev pub seek_entry : Mi → ℕ → core.List Entry → Option Found
seek_entry m i [] = None
seek_entry m i (e ∷ es) = cond (mi_same e.mi m) (Some (record { index = i; mn = e.mn })) (seek_entry m (i + 1) es)

-- The entries of a list that fits the frame; none of one that doesn't.
unfoldable pub entries_in : core.List ℕ → ℕ → ℕ → core.List Entry
entries_in s place len = cond (ltb (length s) (place + (4 + len))) [] (list_at s place len)

-- From the entry with index `from` on.
unfoldable pub found_in : core.List ℕ → ℕ → ℕ → ℕ → Mi → Option Found
found_in s place len from m = seek_entry m from (drop from (entries_in s place len))
