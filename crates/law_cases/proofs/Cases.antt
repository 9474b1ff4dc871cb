-- Each case of the bench comes out as it says.
use Rattle.std.specs.Prelude.{refl, ◌++◌}
use Rattle.base_octets.specs.Number.{be_at, be_of}
use Rattle.base_octets.specs.Run.{written}
use Rattle.base_mi.specs.Mi.{mi_at, mi_octets}
use Rattle.base_mi.specs.Entry.{entry_at}
use Rattle.frame.specs.Basic.{basic_fields, basic_of}
use Rattle.frame.specs.Ours.{same_at, fact6}
use Rattle.frame_places.specs.Once.{holds, places_with}
use Rattle.frame_sets.specs.Set.{len_at, bad_head, bad_set}
use Rattle.frame_rules.specs.Rules.{list_len, bad_body, bad_shape, extent_of}
use Rattle.frame_walk.specs.List.{entries_from, list_at, entries_in}
use Rattle.frame_walk.specs.Walk.{walk_go, walk_from, walk_of}
use Rattle.table_expiry.specs.Expiry.{expired}
use Rattle.table_lookup.specs.Look.{held_in}
use Rattle.table_enter.specs.Enter.{updated, replaced, entered_at}
use Rattle.table.specs.Table.{empty_table, pushed}
use Rattle.table_counts.specs.Counts.{live_count, live_list, potential_list}
use Rattle.table_election.specs.Elect.{elected}
use Rattle.frame_writer.specs.Frame.{header_octets, fixed_octets, ckn_octets, basic_octets, list_set, list_octets, body_octets, frame_of}
use Rattle.call_standing.specs.Standing.{server_of, elected_self}
use Rattle.participant.specs.Call.{aged_to}
use Rattle.call_tick.specs.Tick.{ticked}
use Rattle.call_creation.specs.Create.{fresh, empty_participant, created_of}
use Rattle.participant.specs.Keys.{no_slot, of_member}
use Rattle.call_judge.specs.Judge.{frame_facts}
use Rattle.call_hearing.specs.Keys.{keyed_of}
use Rattle.call_hearing.specs.Proof.{is_recent, named_in, proves_in}
use Rattle.call_receive.specs.Receive.{table_facts, receive_facts, received_of}
use Rattle.call_accept.specs.Accept.{heard_of, admitted, updated_by, accepted_by}
use Rattle.call_send.specs.Message.{key_use_of, server_flag, hands_out, sender_of, sak_of, message_of}
use Rattle.call_send.specs.Send.{frame_at, send_facts, sent_at, sent_of, left_by}
use Rattle.image_layout.specs.Layout.{contents_head, contents_entry, contents_entries, bodies, laid_of}
use Rattle.image_own.specs.Own.{named_octets, times_octets, kept_octets, own_octets}
use Rattle.image_peer.specs.Peer.{peers_octets}
use Rattle.image.specs.Image.{own_part, peers_part, keys_part, image_of}
use Rattle.law_history.specs.Calls.{created}
use Rattle.law_cases.specs.Row.{Right, both}
use Rattle.law_cases.specs.Shown.{shown_cases, shown_cases-right}
use Rattle.law_cases.specs.Echoes.{cases3, cases3-right}
use Rattle.law_cases.specs.Crowd.{cases8, cases8-right}
use Rattle.law_cases.specs.Cases.{others, bench}

others-right : Right others
unfolding created created_of fresh empty_participant no_slot empty_table be_at be_of written mi_octets basic_fields basic_of mi_at live_list potential_list live_count elected
    header_octets fixed_octets ckn_octets basic_octets list_set list_octets body_octets frame_of server_of elected_self aged_to expired of_member key_use_of
    server_flag hands_out sender_of sak_of message_of frame_at send_facts sent_at sent_of left_by same_at fact6 holds places_with len_at list_len bad_body bad_shape
    bad_head bad_set extent_of entry_at entries_from list_at entries_in walk_go walk_from walk_of held_in updated replaced entered_at pushed frame_facts keyed_of
    is_recent named_in proves_in heard_of admitted table_facts receive_facts updated_by accepted_by received_of ticked contents_head contents_entry
    contents_entries bodies laid_of named_octets times_octets kept_octets own_octets peers_octets own_part peers_part keys_part image_of
others-right = refl

pub all-cases : Right bench
all-cases = both others (shown_cases ++ (cases3 ++ cases8)) others-right (both shown_cases (cases3 ++ cases8) shown_cases-right (both cases3 cases8 cases3-right cases8-right))
