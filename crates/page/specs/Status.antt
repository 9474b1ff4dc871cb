-- "`sent M live L potential P server S key K`, where M is MN, L and P count Live and Potential entries (all decimal),
-- S, the Key Server, is `none`, `self` or 24 lower-case hex digits of its MI, and K is the latest KN or `none`"
use Rattle.std.specs.Prelude.{ℕ, Bool, cond, List, ◌++◌}
use Rattle.table_election.specs.declared.Server.{Server}
use Rattle.table_election.specs.declared.Server.TheVariants.{Nobody, Ourselves, Elected}
use Rattle.table_counts.specs.Counts.{live_count, potential_count}
use Rattle.call_standing.specs.Standing.{server_of}
use Rattle.participant.specs.declared.Participant.{Participant}
use Rattle.page.specs.Text.{ascii, decimal_of, hex_of}

unfoldable pub server_text : Server → List ℕ
server_text Nobody = ascii "none"
server_text Ourselves = ascii "self"
server_text (Elected m) = hex_of m

unfoldable pub key_text : Bool → ℕ → List ℕ
key_text held kn = cond held (decimal_of kn) (ascii "none")

unfoldable pub status_text : Participant → List ℕ
status_text p =
    ascii "sent " ++ (decimal_of p.mn
    ++ (ascii " live " ++ (decimal_of (live_count p.table)
    ++ (ascii " potential " ++ (decimal_of (potential_count p.table)
    ++ (ascii " server " ++ (server_text (server_of p)
    ++ (ascii " key " ++ key_text p.latest.held p.latest.key.kn))))))))
