use Rattle.std.proofs.Common.{◌≡◌, ◌≤◌, length, take}
use Rattle.table_expiry.specs.Expiry.{aged_list}
use Rattle.table_expiry.proofs.Moving.{moved_up}
use Rattle.table_expiry.proofs.expire.Given as goal

abbrev pub invariant-loop-i : goal.invariant-loop-i
invariant-loop-i l =
    (l.k ≤ l.i)
    × (l.k ≡ length (aged_list l.time (take l.i l.initial.t.peers)))
    × (l.t.peers ≡ moved_up l.time l.initial.t.peers l.i)
