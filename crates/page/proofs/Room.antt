-- The line has room for every status: nothing is left out.
use Prim.Native.Nat.{ℕ, ◌+◌, ◌^◌, ◌≤◌, ◌<◌}
use mathlib.Core.Path.{◌≡◌, sym}
use mathlib.Core.List.{◌++◌}
use mathlib.Core.Bool.{Bool, true, false}
use native.Mathlib.Omega.{arith}
use lib.ListN.{length, length-append}
use Rattle.table_counts.specs.Counts.{live_count, potential_count}
use Rattle.table_expiry.proofs.Aging.{at-most-16}
use Rattle.table_counts.proofs.Listing.{live-potential}
use Rattle.table_election.specs.declared.Server.{Server}
use Rattle.table_election.specs.declared.Server.TheVariants.{Nobody, Ourselves, Elected}
use Rattle.participant.specs.declared.Participant.{Participant}
use Rattle.call_standing.specs.Standing.{server_of}
use Rattle.page.specs.Text.{ascii, line_of, ended_of}
use Rattle.page.specs.Status.{server_text, key_text, status_text}
use Rattle.page.proofs.Laws.{decimal-below, length-hex}
use Rattle.page.proofs.Said.{said-append, line-said, ended-said}

server-le : (s : Server) → length (server_text s) ≤ 24
unfolding server_text
server-le Nobody = omega arith
server-le Ourselves = omega arith
server-le (Elected m) = omega (arith, length-hex m)

key-le : (held : Bool) (kn : ℕ) → kn < 2 ^ 32 → length (key_text held kn) ≤ 10
unfolding key_text
key-le true kn lt = decimal-below 9 kn (omega arith)
key-le false kn lt = omega arith

pub status-le : (p : Participant) → p.mn < 2 ^ 32 → p.latest.key.kn < 2 ^ 32 → length (status_text p) ≤ 83
unfolding status_text
status-le p mn kn =
    let t = p.table in
    let peers : live_count t + potential_count t ≤ 16 = omega (arith, live-potential t, at-most-16 t) in
    simp length-append
    (omega (
      arith,
      decimal-below 9 p.mn (omega arith),
      decimal-below 1 (live_count t) (omega arith),
      decimal-below 1 (potential_count t) (omega arith),
      server-le (server_of p),
      key-le p.latest.held p.latest.key.kn kn,
    ))

-- and its end
pub line-whole : (p : Participant) → p.mn < 2 ^ 32 → p.latest.key.kn < 2 ^ 32 → ended_of (line_of (status_text p)) ≡ line_of (status_text p ++ ascii "\n")
line-whole p mn kn =
    let t = status_text p in
    let n = status-le p mn kn in
    rw (ended-said, line-said t (omega arith), line-said (t ++ ascii "\n") (omega (arith, length-append t (ascii "\n")))) (sym (said-append _ t _))
