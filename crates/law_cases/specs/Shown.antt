-- Case 1's line on the port page, from the octets of its image.
use Rattle.std.specs.Prelude.{refl, List, [], ◌∷◌, take}
use Rattle.base_octets.specs.Number.{be_at, be_of}
use Rattle.base_octets.specs.Run.{part_of}
use Rattle.base_mi.specs.Mi.{mi_at, mi_octets}
use Rattle.table.specs.Table.{empty_table}
use Rattle.table_counts.specs.Counts.{live_count, potential_count}
use Rattle.table_election.specs.Elect.{elected}
use Rattle.call_standing.specs.Standing.{server_of}
use Rattle.call_creation.specs.Create.{fresh, empty_participant, created_of}
use Rattle.image_layout.specs.Layout.{contents_head, contents_entry, contents_entries, bodies, laid_of, entry_kind, records_at, offset_at, laid_from, laid_out}
use Rattle.image_own.specs.Own.{named_octets, times_octets, kept_octets, own_octets, own_at, own_clean}
use Rattle.image_peer.specs.Peer.{peers_octets, peers_at, peers_clean}
use Rattle.image_key.specs.Key.{slot_at, slot_clean}
use Rattle.table_expiry.specs.Kept.{peer_rules}
use Rattle.participant.specs.Keys.{no_slot, of_member, is_key}
use Rattle.image_rules.specs.Rules.{unused_zero, rules}
use Rattle.image.specs.Image.{own_part, peers_part, keys_part, image_of}
use Rattle.image_reading.specs.Read.{numbers_good, clean, told_by, well_formed, read_of}
use Rattle.page.specs.declared.line.Line.{Line}
use Rattle.page.specs.Text.{ascii, decimal_of, line_of, ended_of}
use Rattle.page.specs.Status.{server_text, key_text, status_text}
use Rattle.page_shown.specs.Show.{shown_of}
use Rattle.law_history.specs.Calls.{created}
use Rattle.law_cases.specs.Row.{Row, row, Right, each, Outcome, octets}
use Rattle.law_cases.specs.Setting.{first}

abbrev pub printed : Line → Outcome
printed l = octets (take l.len l.text)

abbrev pub shown_cases : List Row
shown_cases = row 1 (octets (ascii "sent 0 live 0 potential 0 server none key none\n")) (printed (shown_of (image_of first))) ∷ []

pub shown_cases-right : Right shown_cases
unfolding created created_of fresh empty_participant no_slot empty_table be_at be_of part_of mi_at mi_octets contents_head contents_entry contents_entries bodies laid_of named_octets
    times_octets kept_octets own_octets peers_octets own_part peers_part keys_part image_of entry_kind records_at offset_at laid_from laid_out own_at own_clean
    peers_at peers_clean slot_at slot_clean peer_rules of_member is_key unused_zero rules numbers_good clean told_by well_formed read_of
    live_count potential_count elected server_of decimal_of server_text key_text status_text line_of ended_of shown_of
shown_cases-right = each shown_cases (refl, tt)
