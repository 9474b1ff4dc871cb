-- The Live and the Potential peers together are all, and their lists hold them in table order.
use Prim.Native.Nat.{◌+◌, ◌≤◌, min}
use mathlib.Core.Path.{◌≡◌, refl}
use mathlib.Core.Bool.{Bool}
use mathlib.Core.List.{List, map}
use native.Mathlib.Omega.{arith}
use lib.ListN.{length}
use Rattle.std.proofs.lemmas.List.Filters.{length-filter_both}
use Rattle.base_mi.specs.declared.entry.Entry.{Entry}
use Rattle.base_mi.specs.Entry.{entries_of}
use Rattle.table.specs.declared.Peer.{Peer}
use Rattle.table.specs.declared.Table.{Table}
use Rattle.law_lists.specs.Lists.{those}
use Rattle.table.specs.Table.{entries}
use Rattle.table_lookup.specs.Look.{is_live, is_potential}
use Rattle.table_counts.specs.Counts.{entry_of, blank_entry, list_of, live_count, potential_count, live_list, potential_list}
use Rattle.law_lists.proofs.Laws.{length-those, length-of-map, length-pad, take-pad}
use Rattle.table_expiry.proofs.Aging.{at-most-16}

pub live-potential : (t : Table) → live_count t + potential_count t ≡ length (entries t)
unfolding live_count potential_count
live-potential t = length-filter_both is_live is_potential (λ p. refl) (entries t)

few : (f : Peer → Bool) (t : Table) → length (map entry_of (those f (entries t))) ≤ 16
few f t = omega (arith, length-of-map entry_of (those f (entries t)), length-those f (entries t), at-most-16 t)

listed : (f : Peer → Bool) (t : Table) → entries_of (list_of (map entry_of (those f (entries t)))) ≡ map entry_of (those f (entries t))
listed f t = fits (map entry_of (those f (entries t))) (few f t)
  where
    fits : (l : List Entry) → length l ≤ 16 → entries_of (list_of l) ≡ l
    fits l n = let e : min (length l) 16 ≡ length l = omega arith in rw e (take-pad 16 blank_entry l)

pub live-listed : (t : Table) → entries_of (live_list t) ≡ map entry_of (those is_live (entries t))
unfolding live_list
live-listed t = listed is_live t

pub potential-listed : (t : Table) → entries_of (potential_list t) ≡ map entry_of (those is_potential (entries t))
unfolding potential_list
potential-listed t = listed is_potential t

-- the values' slots and counts
pub live-whole : (t : Table) → length (live_list t).entries ≡ 16
unfolding live_list
live-whole t = length-pad 16 blank_entry (map entry_of (those is_live (entries t))) (few is_live t)

pub potential-whole : (t : Table) → length (potential_list t).entries ≡ 16
unfolding potential_list
potential-whole t = length-pad 16 blank_entry (map entry_of (those is_potential (entries t))) (few is_potential t)

pub live-counted : (t : Table) → (live_list t).count ≡ live_count t
unfolding live_list live_count
live-counted t = length-of-map entry_of (those is_live (entries t))

pub potential-counted : (t : Table) → (potential_list t).count ≡ potential_count t
unfolding potential_list potential_count
potential-counted t = length-of-map entry_of (those is_potential (entries t))
