-- Case 3: "Last sent 7: echoes 4 to 7 are recent, 3 and 8 not. Last sent 2: 1 and 2 are, 0 not."
use Rattle.std.specs.Prelude.{ℕ, refl, Bool, true, false, List, [], ◌∷◌}
use Rattle.base_octets.specs.Number.{be_at, be_of}
use Rattle.base_octets.specs.Run.{written}
use Rattle.base_mi.specs.Mi.{mi_at, mi_octets}
use Rattle.base_mi.specs.Entry.{entry_at}
use Rattle.frame.specs.Basic.{basic_fields, basic_of}
use Rattle.frame.specs.Ours.{same_at, fact6}
use Rattle.frame_places.specs.Once.{holds, places_with}
use Rattle.frame_sets.specs.Set.{len_at, bad_head, bad_set}
use Rattle.frame_rules.specs.Rules.{list_len, bad_body, bad_shape, extent_of}
use Rattle.frame_walk.specs.List.{entries_from, list_at, entries_in}
use Rattle.frame_walk.specs.Walk.{walk_go, walk_from, walk_of}
use Rattle.table_expiry.specs.Expiry.{expired}
use Rattle.table_lookup.specs.Look.{held_in}
use Rattle.table_enter.specs.Enter.{updated, replaced, entered_at}
use Rattle.table.specs.Table.{empty_table, pushed}
use Rattle.table_counts.specs.Counts.{live_count, live_list, potential_list}
use Rattle.table_election.specs.Elect.{elected}
use Rattle.frame_writer.specs.Frame.{header_octets, fixed_octets, ckn_octets, basic_octets, list_set, list_octets, body_octets, frame_of}
use Rattle.call_standing.specs.Standing.{server_of, elected_self}
use Rattle.participant.specs.Call.{aged_to}
use Rattle.call_creation.specs.Create.{fresh, empty_participant, created_of}
use Rattle.participant.specs.Keys.{no_slot, of_member}
use Rattle.call_judge.specs.Judge.{frame_facts}
use Rattle.call_hearing.specs.Keys.{keyed_of}
use Rattle.call_hearing.specs.Proof.{is_recent, named_in, proves_in}
use Rattle.call_receive.specs.Receive.{table_facts, receive_facts, received_of}
use Rattle.call_accept.specs.Accept.{heard_of, admitted, updated_by, accepted_by}
use Rattle.call_send.specs.Message.{key_use_of, server_flag, hands_out, sender_of, sak_of, message_of}
use Rattle.call_send.specs.Send.{frame_at, send_facts, sent_at, sent_of, left_by}
use Rattle.law_history.specs.Calls.{created, receives}
use Rattle.law_cases.specs.Row.{Row, row, Right, each, yes-no}
use Rattle.law_cases.specs.Setting.{frame, naming, sendings, live}

-- Who is Live after so many sends and an echo.
abbrev pub echo : ℕ → ℕ → Bool → Row
echo last mn recent = row 3 (yes-no recent) (live (receives 0 true (frame 0x22 2 16 1 (naming mn)) ∷ sendings last))

abbrev pub cases3 : List Row
cases3 =
    echo 7 4 true
    ∷ echo 7 5 true
    ∷ echo 7 6 true
    ∷ echo 7 7 true
    ∷ echo 7 3 false
    ∷ echo 7 8 false
    ∷ echo 2 1 true
    ∷ echo 2 2 true
    ∷ echo 2 0 false
    ∷ []

pub cases3-right : Right cases3
unfolding created created_of fresh empty_participant no_slot empty_table be_at be_of mi_at mi_octets basic_fields basic_of aged_to expired of_member
    same_at fact6 holds places_with len_at list_len bad_body bad_shape bad_head bad_set extent_of entry_at entries_from list_at entries_in walk_go walk_from walk_of
    held_in updated replaced entered_at pushed frame_facts keyed_of is_recent named_in proves_in heard_of admitted table_facts receive_facts updated_by
    accepted_by received_of written live_list potential_list live_count elected header_octets fixed_octets ckn_octets basic_octets list_set list_octets
    body_octets frame_of server_of elected_self key_use_of server_flag hands_out sender_of sak_of message_of frame_at send_facts sent_at sent_of left_by
cases3-right = each cases3 (refl, (refl, (refl, (refl, (refl, (refl, (refl, (refl, (refl, tt)))))))))
