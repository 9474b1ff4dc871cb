-- Worked cases of the line.
use Rattle.std.specs.Prelude.{ℕ, ◌≡◌, refl, Bool, true, false, [], ◌∷◌}
use Rattle.base_mi.specs.declared.Mi.{Mi}
use Rattle.table.specs.declared.Peer.{Peer}
use Rattle.table.specs.Table.{table_of, empty_table}
use Rattle.table_counts.specs.Counts.{live_count, potential_count}
use Rattle.table_election.specs.Elect.{elected}
use Rattle.participant.specs.declared.Participant.{Participant}
use Rattle.participant.specs.Record.{set_mn, set_kn, set_table, set_latest}
use Rattle.participant.specs.Keys.{no_slot}
use Rattle.call_creation.specs.Create.{fresh}
use Rattle.call_standing.specs.Standing.{server_of}
use Rattle.page.specs.Text.{ascii, decimal_of, hex_of}
use Rattle.page.specs.Status.{server_text, key_text, status_text}

-- "MI 11 twelve times, SCI 02-00-00-00-00-01-00-01, priority 16, capability 2, desired, CKN 41-42-43-44, time 0"
unfoldable pub first : Participant
first = fresh 0 (record { hi = 0x1111111111111111; lo = 0x11111111 }) 0x0200000000010001 16 2 true (0x41 ∷ 0x42 ∷ 0x43 ∷ 0x44 ∷ [])

abbrev other : Mi
other = record { hi = 0x0123456789abcdef; lo = 0x00fedcba }

-- A peer of a priority, which had the Key Server flag, with or without a proof.
abbrev peer : Mi → ℕ → Bool → Peer
peer mi priority proven =
    record {
      mi = mi;
      mn = 7;
      sci = 0;
      accepted = 0;
      proof = 0;
      priority = priority;
      capability = 2;
      server = true;
      desired = true;
      proven = proven;
    }

-- Case 1 with a Live peer and two Potential ones, our KN 8 and the latest KN 5.
unfoldable pub later : ℕ → Participant
later priority =
    set_mn 4294967295
    (set_kn 8
    (set_table (table_of (peer (record { hi = 0; lo = 1 }) 0 false ∷ peer other priority true ∷ peer (record { hi = 0; lo = 2 }) 0 false ∷ []))
    (set_latest (record {
      held = true;
      key = record { mi = other; kn = 5; suite = 0; an = 1; confidentiality = 1; receive = true; transmit = false };
    })
    first)))

pub cases :
    (decimal_of 0 ≡ ascii "0")
    × (decimal_of 9 ≡ ascii "9")
    × (decimal_of 10 ≡ ascii "10")
    × (decimal_of 4294967295 ≡ ascii "4294967295")
    × (decimal_of 18446744073709551615 ≡ ascii "18446744073709551615")
    × (hex_of other ≡ ascii "0123456789abcdef00fedcba")
    × (status_text first ≡ ascii "sent 0 live 0 potential 0 server none key none")
    × (status_text (later 15) ≡ ascii "sent 4294967295 live 1 potential 2 server 0123456789abcdef00fedcba key 5")
    × (status_text (later 17) ≡ ascii "sent 4294967295 live 1 potential 2 server self key 5")
unfolding decimal_of hex_of status_text server_text key_text first later fresh no_slot empty_table live_count potential_count server_of elected
cases = (refl, refl, refl, refl, refl, refl, refl, refl, refl)
