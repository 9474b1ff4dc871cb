use Rattle.std.proofs.Common.{◌≡◌, ◌-◌, ◌≤◌, length, drop}
use Rattle.frame_walk.specs.List.{entries_in}
use Rattle.call_hearing.specs.Proof.{any_recent}
use Rattle.call_hearing.proofs.proof.named.Given as goal

abbrev pub invariant-loop-found : goal.invariant-loop-found
invariant-loop-found l =
    let es = entries_in l.frame l.list.place l.list.len in
    (l.from ≤ length es) × (any_recent l.own l.last (drop l.from es) ≡ any_recent l.own l.last es)

abbrev pub decreases-loop-found : goal.decreases-loop-found
decreases-loop-found l = length (entries_in l.frame l.list.place l.list.len) - l.from
