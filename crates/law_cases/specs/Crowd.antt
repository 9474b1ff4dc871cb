-- Case 8: "Seventeenth MI: 12; if one of the sixteen expires at that time, accepted."
use Rattle.std.specs.Prelude.{ℕ, refl, true, List, [], ◌∷◌}
use Rattle.base_octets.specs.Number.{be_at, be_of}
use Rattle.base_mi.specs.Mi.{mi_at, mi_octets}
use Rattle.base_mi.specs.Entry.{entry_at}
use Rattle.frame.specs.Basic.{basic_fields, basic_of}
use Rattle.frame.specs.Ours.{same_at, fact6}
use Rattle.frame_places.specs.Once.{holds, places_with}
use Rattle.frame_sets.specs.Set.{len_at, bad_head, bad_set}
use Rattle.frame_rules.specs.Rules.{list_len, bad_body, bad_shape, extent_of}
use Rattle.frame_walk.specs.List.{entries_from, list_at, entries_in}
use Rattle.frame_walk.specs.Walk.{walk_go, walk_from, walk_of}
use Rattle.table_expiry.specs.Expiry.{expired}
use Rattle.table_lookup.specs.Look.{held_in}
use Rattle.table_enter.specs.Enter.{updated, replaced, entered_at}
use Rattle.table.specs.Table.{empty_table, pushed}
use Rattle.participant.specs.Call.{aged_to}
use Rattle.call_creation.specs.Create.{fresh, empty_participant, created_of}
use Rattle.participant.specs.Keys.{no_slot, of_member}
use Rattle.call_judge.specs.Judge.{frame_facts}
use Rattle.call_hearing.specs.Keys.{keyed_of}
use Rattle.call_hearing.specs.Proof.{is_recent, named_in, proves_in}
use Rattle.call_receive.specs.Receive.{table_facts, receive_facts, received_of}
use Rattle.call_accept.specs.Accept.{heard_of, admitted, updated_by, accepted_by}
use Rattle.law_history.specs.Calls.{created, receives}
use Rattle.law_cases.specs.Row.{Row, row, Right, each, Outcome, accepted, refused}
use Rattle.law_cases.specs.Setting.{frame, comers, comes}

-- They came one every millisecond from 0 on.
abbrev pub arriving : ℕ → ℕ → Outcome
arriving held time = comes (comers held) (receives time true (frame 0x22 2 16 1 []))

abbrev pub cases8 : List Row
cases8 =
    row 8 accepted (arriving 15 16)
    ∷ row 8 (refused 12) (arriving 16 16)
    ∷ row 8 (refused 12) (arriving 16 5999)
    ∷ row 8 accepted (arriving 16 6000)
    ∷ []

pub cases8-right : Right cases8
unfolding created created_of fresh empty_participant no_slot empty_table be_at be_of mi_at mi_octets basic_fields basic_of aged_to expired of_member
    same_at fact6 holds places_with len_at list_len bad_body bad_shape bad_head bad_set extent_of entry_at entries_from list_at entries_in walk_go walk_from walk_of
    held_in updated replaced entered_at pushed frame_facts keyed_of is_recent named_in proves_in heard_of admitted table_facts receive_facts updated_by
    accepted_by received_of
cases8-right = each cases8 (refl, (refl, (refl, (refl, tt))))
