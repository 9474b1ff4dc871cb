-- What the theorems speak of occurs: a peer that is Live and one that isn't, a key of ours and one of a peer's, a key dropped and
-- entered again, an identifier left and taken again. By computing.
use Rattle.std.specs.Prelude.{ℕ, ◌+◌, ◌≡◌, refl, Bool, true, false, List, [], ◌∷◌, ◌++◌, length, replicate}
use Rattle.base_octets.specs.Number.{be_at, be_of}
use Rattle.base_octets.specs.Run.{written}
use Rattle.base_mi.specs.Mi.{mi_at, mi_octets}
use Rattle.base_mi.specs.Entry.{entry_at}
use Rattle.base_mi.specs.declared.Mi.{Mi}
use Rattle.frame.specs.Basic.{basic_fields}
use Rattle.frame.specs.Ours.{same_at, fact6}
use Rattle.frame_places.specs.Once.{holds, places_with}
use Rattle.frame_sets.specs.Kinds.{sak_at, sak_in}
use Rattle.frame_sets.specs.Set.{len_at, bad_head, bad_set}
use Rattle.frame_rules.specs.Rules.{list_len, bad_body, bad_shape, extent_of}
use Rattle.frame_walk.specs.List.{entries_from, list_at, entries_in}
use Rattle.frame_walk.specs.Walk.{walk_go, walk_from, walk_of}
use Rattle.table_expiry.specs.Expiry.{expired}
use Rattle.table_lookup.specs.Look.{held_in, live_for, potential_for}
use Rattle.table_enter.specs.Enter.{updated, replaced, entered_at}
use Rattle.table.specs.Table.{empty_table, pushed}
use Rattle.table_counts.specs.Counts.{live_count, live_list, potential_list}
use Rattle.table_election.specs.Elect.{elected}
use Rattle.table_election.specs.declared.Server.{Server}
use Rattle.table_election.specs.declared.Server.TheVariants.{Ourselves, Elected}
use Rattle.frame_writer.specs.Frame.{header_octets, fixed_octets, ckn_octets, basic_octets, list_set, list_octets, body_octets, frame_of}
use Rattle.call_standing.specs.Standing.{server_of, elected_self, pause_over, fresh_due}
use Rattle.participant.specs.Call.{aged_to}
use Rattle.call_tick.specs.Tick.{ticked}
use Rattle.call_creation.specs.Create.{fresh, empty_participant, created_of}
use Rattle.call_new_mi.specs.Renew.{in_use, renewed, new_mi_of}
use Rattle.call_distribute.specs.Distribute.{next_an, confidentiality_of, fresh_key, with_fresh, distributed_of}
use Rattle.participant.specs.Keys.{no_slot, slot_of, of_member, is_key, with_key, without_keys}
use Rattle.participant.specs.declared.Slot.{Slot}
use Rattle.call_judge.specs.Judge.{frame_facts}
use Rattle.call_hearing.specs.Keys.{is_server, is_known, key_from, keyed_of}
use Rattle.call_hearing.specs.Proof.{is_recent, named_in, proves_in}
use Rattle.call_receive.specs.Receive.{table_facts, receive_facts, received_of}
use Rattle.call_accept.specs.Accept.{heard_of, admitted, updated_by, accepted_by}
use Rattle.call_send.specs.Message.{key_use_of, server_flag, hands_out, sender_of, sak_of, message_of}
use Rattle.call_send.specs.Send.{frame_at, send_facts, sent_at, sent_of, left_by}
use Rattle.law_history.specs.Calls.{Creation, created, Call, receives, sends, distributes, ticks, renews, after, accepted, identifier, numbers_sent}

-- case 1: MI 11 twelve times, CKN 41-42-43-44, time 0; a peer with 22; another identifier of ours
abbrev own : Mi
own = record { hi = 0x1111111111111111; lo = 0x11111111 }

abbrev peer : Mi
peer = record { hi = 0x2222222222222222; lo = 0x22222222 }

abbrev another : Mi
another = record { hi = 0x3333333333333333; lo = 0x33333333 }

abbrev creation : Creation
creation = record { time = 0; mi = own; sci = 0x0200000000010001; priority = 16; capability = 2; desired = true; ckn = 0x41 ∷ 0x42 ∷ 0x43 ∷ 0x44 ∷ [] }

-- a frame of the peer's, of a priority and with a number, whose Live list has `own` with the number n; then further sets
abbrev frame : ℕ → ℕ → ℕ → List ℕ → List ℕ
frame priority number n further =
    3 ∷ 5 ∷ 0 ∷ (72 + length further) ∷ 1 ∷ priority ∷ 0xe0 ∷ 32 ∷ 2 ∷ 0 ∷ 0 ∷ 0 ∷ 0 ∷ 1 ∷ 0 ∷ 2
    ∷ 0x22 ∷ 0x22 ∷ 0x22 ∷ 0x22 ∷ 0x22 ∷ 0x22 ∷ 0x22 ∷ 0x22 ∷ 0x22 ∷ 0x22 ∷ 0x22 ∷ 0x22 ∷ 0 ∷ 0 ∷ 0 ∷ number
    ∷ 0x00 ∷ 0x80 ∷ 0xc2 ∷ 0x01 ∷ 0x41 ∷ 0x42 ∷ 0x43 ∷ 0x44 ∷ 1 ∷ 0 ∷ 0 ∷ 16
    ∷ 0x11 ∷ 0x11 ∷ 0x11 ∷ 0x11 ∷ 0x11 ∷ 0x11 ∷ 0x11 ∷ 0x11 ∷ 0x11 ∷ 0x11 ∷ 0x11 ∷ 0x11 ∷ 0 ∷ 0 ∷ 0 ∷ n
    ∷ (further ++ replicate 16 0)

abbrev naming : ℕ → List ℕ
naming n = frame 16 1 n []

-- a Distributed SAK of AN 2, offset 0 and KN 7, and an empty one
abbrev sak7 : List ℕ
sak7 = 4 ∷ 0x90 ∷ 0 ∷ 28 ∷ 0 ∷ 0 ∷ 0 ∷ 7 ∷ replicate 24 0xaa

abbrev no_sak : List ℕ
no_sak = 4 ∷ 0 ∷ 0 ∷ 0 ∷ []

-- we send, and hear the peer a second later
abbrev sends_at : ℕ → Call
sends_at time = sends time 0 0 (replicate 56 0)

abbrev sent_once : List Call
sent_once = sends_at 0 ∷ []

abbrev heard : ℕ → List Call
heard n = receives 1000 true (naming n) ∷ sent_once

abbrev is_live : List Call → Bool
is_live cs = live_for (held_in peer (after creation cs).table)

abbrev is_potential : List Call → Bool
is_potential cs = potential_for (held_in peer (after creation cs).table)

abbrev server : List Call → Server
server cs = server_of (after creation cs)

abbrev latest : List Call → Slot
latest cs = (after creation cs).latest

-- The frame that was sent has the number 1. Named with it, the peer is Live, until 6,000 ms later; named with a number that
-- wasn't sent, or before it was, it is Potential. All these frames are accepted.
abbrev pub BothSides : Type 0
BothSides =
    (numbers_sent creation sent_once ≡ 1 ∷ [])
    × (accepted creation sent_once (receives 1000 true (naming 1)) ≡ true)
    × (is_live (heard 1) ≡ true)
    × (is_live (ticks 6999 ∷ heard 1) ≡ true)
    × (is_live (ticks 7000 ∷ heard 1) ≡ false)
    × (accepted creation sent_once (receives 1000 true (naming 2)) ≡ true)
    × (is_live (heard 2) ≡ false)
    × (is_potential (heard 2) ≡ true)
    × (accepted creation [] (receives 1000 true (naming 1)) ≡ true)
    × (is_potential (receives 1000 true (naming 1) ∷ []) ≡ true)

-- Of the same priority we have the lower SCI: elected, we distribute a key, and it is on record under our MI with KN 1.
abbrev ours : List Call
ours = distributes 1000 (replicate 24 0xbb) ∷ heard 1

abbrev pub OurKey : Type 0
OurKey =
    (server (heard 1) ≡ Ourselves)
    × (accepted creation (heard 1) (distributes 1000 (replicate 24 0xbb)) ≡ true)
    × (latest ours ≡ slot_of (record { mi = own; kn = 1; suite = 0; an = 0; confidentiality = 1; receive = false; transmit = false }))

-- A peer of priority 15 is elected by the very frame that makes it Live, and its Distributed SAK is entered; an empty one drops it, and
-- the same one enters it again.
abbrev theirs : List Call
theirs = receives 1000 true (frame 15 1 1 sak7) ∷ sent_once

abbrev dropped : List Call
dropped = receives 2000 true (frame 15 2 1 no_sak) ∷ theirs

abbrev again : List Call
again = receives 3000 true (frame 15 3 1 sak7) ∷ dropped

abbrev key7 : Slot
key7 = slot_of (record { mi = peer; kn = 7; suite = 0; an = 2; confidentiality = 1; receive = false; transmit = false })

abbrev pub TheirKey : Type 0
TheirKey = (server theirs ≡ Elected peer) × (latest theirs ≡ key7) × ((latest dropped).held ≡ false) × (latest again ≡ key7)

-- Another identifier is taken, and ours again, within a second of the proof: the peer that named it is not Live any more, and our
-- numbers begin again. Named with the 1 of the present ones, it is.
abbrev left : List Call
left = renews 1100 another ∷ heard 1

abbrev back : List Call
back = renews 1200 own ∷ sends_at 1150 ∷ left

abbrev pub TakenAgain : Type 0
TakenAgain =
    (identifier creation left ≡ another)
    × (numbers_sent creation left ≡ [])
    × (numbers_sent creation (sends_at 1150 ∷ left) ≡ 1 ∷ [])
    × (identifier creation back ≡ own)
    × (is_live back ≡ false)
    × (is_potential (receives 1300 true (naming 1) ∷ back) ≡ true)
    × (numbers_sent creation (sends_at 1250 ∷ back) ≡ 1 ∷ [])
    × (is_live (receives 1300 true (naming 1) ∷ sends_at 1250 ∷ back) ≡ true)

pub worked : BothSides × OurKey × TheirKey × TakenAgain
unfolding created created_of fresh empty_participant no_slot empty_table be_at be_of written mi_octets basic_fields mi_at live_list potential_list live_count elected
    header_octets fixed_octets ckn_octets basic_octets list_set list_octets body_octets frame_of server_of elected_self aged_to expired of_member key_use_of
    server_flag hands_out sender_of sak_of message_of frame_at send_facts sent_at sent_of left_by same_at fact6 holds places_with len_at list_len bad_body bad_shape
    bad_head bad_set extent_of entry_at entries_from list_at entries_in walk_go walk_from walk_of held_in updated replaced entered_at pushed frame_facts keyed_of
    is_recent named_in proves_in heard_of admitted table_facts receive_facts updated_by accepted_by received_of ticked
    pause_over fresh_due next_an confidentiality_of fresh_key with_fresh distributed_of is_server is_known key_from sak_at sak_in is_key with_key without_keys
    in_use renewed new_mi_of
worked = (
  (refl, refl, refl, refl, refl, refl, refl, refl, refl, refl),
  (refl, refl, refl),
  (refl, refl, refl, refl),
  (refl, refl, refl, refl, refl, refl, refl, refl),
)
