-- "Bench cases": the starred ones as one table, and the one theorem over it. Rows that take more computing stand in files of their own.
use Rattle.std.specs.Prelude.{ℕ, true, false, List, [], ◌∷◌, ◌++◌, replicate, set}
use Rattle.frame.specs.Basic.{basic_of}
use Rattle.table_counts.specs.Counts.{live_count}
use Rattle.table_election.specs.declared.Server.TheVariants.{Nobody, Ourselves, Elected}
use Rattle.call_standing.specs.Standing.{server_of}
use Rattle.participant.specs.declared.Participant.{Participant}
use Rattle.call_send.specs.Send.{left_by}
use Rattle.law_history.specs.Calls.{Call, created, to_call, receives, sends, ticks, after}
use Rattle.law_cases.specs.Row.{Row, row, Outcome, accepted, refused, octets, number, yes-no, elects, ended, basic_ended}
use Rattle.law_cases.specs.Image.{image_cases}
use Rattle.law_cases.specs.Shown.{shown_cases}
use Rattle.law_cases.specs.Echoes.{cases3}
use Rattle.law_cases.specs.Crowd.{cases8}
use Rattle.law_cases.specs.Setting.{twelve, of_priority, case1, first, frame, naming, sendings, comes, live, potential}

-- "MI 11 twelve times, SCI 02-00-00-00-00-01-00-01, .." is accepted, and its image begins as it says.
abbrev pub cases1 : List Row
cases1 = row 1 accepted (ended (to_call (created case1).answer)) ∷ image_cases

-- "Its first send is 56 octets: 03 05 00 34, 01 10 E0 20, SCI, MI, 00 00 00 01, 00 80 C2 01, 41 42 43 44, sixteen zeros. Room 55: refusal 13."
abbrev pub first_frame : List ℕ
first_frame =
    0x03 ∷ 0x05 ∷ 0x00 ∷ 0x34 ∷ 0x01 ∷ 0x10 ∷ 0xe0 ∷ 0x20
    ∷ 0x02 ∷ 0x00 ∷ 0x00 ∷ 0x00 ∷ 0x00 ∷ 0x01 ∷ 0x00 ∷ 0x01
    ∷ 0x11 ∷ 0x11 ∷ 0x11 ∷ 0x11 ∷ 0x11 ∷ 0x11 ∷ 0x11 ∷ 0x11 ∷ 0x11 ∷ 0x11 ∷ 0x11 ∷ 0x11
    ∷ 0x00 ∷ 0x00 ∷ 0x00 ∷ 0x01 ∷ 0x00 ∷ 0x80 ∷ 0xc2 ∷ 0x01 ∷ 0x41 ∷ 0x42 ∷ 0x43 ∷ 0x44
    ∷ 0x00 ∷ 0x00 ∷ 0x00 ∷ 0x00 ∷ 0x00 ∷ 0x00 ∷ 0x00 ∷ 0x00 ∷ 0x00 ∷ 0x00 ∷ 0x00 ∷ 0x00 ∷ 0x00 ∷ 0x00 ∷ 0x00 ∷ 0x00 ∷ []

abbrev pub cases2 : List Row
cases2 =
    row 2 (number 56) (comes [] (sends 0 0 0 (replicate 56 0xff)))
    ∷ row 2 (octets first_frame) (octets (left_by first 0 0 0 (replicate 56 0xff)))
    ∷ row 2 (octets (first_frame ++ (0xff ∷ []))) (octets (left_by first 0 0 0 (replicate 57 0xff)))
    ∷ row 2 (refused 13) (comes [] (sends 0 0 0 (replicate 55 0xff)))
    ∷ row 2 (octets (replicate 55 0xff)) (octets (left_by first 0 0 0 (replicate 55 0xff)))
    ∷ []

-- "Proof at 1,000: Live at 6,999, not at 7,000.": also where a frame without our number came in between, which only keeps the entry
abbrev pub proof : List Call
proof = receives 1000 true (frame 0x22 2 16 1 (naming 1)) ∷ sendings 1

abbrev pub kept_alive : List Call
kept_alive = receives 2000 true (frame 0x22 2 16 2 []) ∷ proof

abbrev pub cases4 : List Row
cases4 =
    row 4 (yes-no true) (live (ticks 6999 ∷ proof))
    ∷ row 4 (yes-no false) (live (ticks 7000 ∷ proof))
    ∷ row 4 (yes-no true) (live (ticks 6999 ∷ kept_alive))
    ∷ row 4 (yes-no false) (live (ticks 7000 ∷ kept_alive))
    ∷ row 4 (yes-no true) (potential (ticks 7000 ∷ kept_alive))
    ∷ []

-- "Same frame twice at once: second gets 11. At 6,000 ms later: accepted."
abbrev pub again : ℕ → Call
again time = receives time true (frame 0x22 2 16 1 [])

abbrev pub cases5 : List Row
cases5 =
    row 5 accepted (comes [] (again 0))
    ∷ row 5 (refused 11) (comes (again 0 ∷ []) (again 0))
    ∷ row 5 (refused 11) (comes (again 0 ∷ []) (again 5999))
    ∷ row 5 accepted (comes (again 0 ∷ []) (again 6000))
    ∷ []

-- "Priorities 16 and 16: lower SCI. Only 255s: nobody.": case 1's participant with a priority, its SCI ending in 1, and Live peers
-- with a priority, their SCIs ending in a port
abbrev pub peer : ℕ → ℕ → ℕ → Call
peer m port priority = receives 0 true (frame m port priority 1 (naming 1))

abbrev pub beside : ℕ → List Call → Participant
beside own peers = after (of_priority own) (peers ++ sendings 1)

abbrev pub chosen : ℕ → List Call → Outcome
chosen own peers = elects (server_of (beside own peers))

abbrev pub two255s : List Call
two255s = peer 0x22 2 255 ∷ peer 0x21 0 255 ∷ []

abbrev pub cases6 : List Row
cases6 =
    row 6 (elects Ourselves) (chosen 16 (peer 0x22 2 16 ∷ []))
    ∷ row 6 (elects (Elected (twelve 0x22))) (chosen 16 (peer 0x22 0 16 ∷ []))
    ∷ row 6 (elects (Elected (twelve 0x22))) (chosen 17 (peer 0x22 2 16 ∷ peer 0x21 3 16 ∷ []))
    ∷ row 6 (elects (Elected (twelve 0x22))) (chosen 17 (peer 0x21 3 16 ∷ peer 0x22 2 16 ∷ []))
    ∷ row 6 (elects Nobody) (chosen 255 (peer 0x22 2 255 ∷ []))
    ∷ row 6 (elects Nobody) (chosen 255 two255s)
    ∷ row 6 (number 2) (number (live_count (beside 255 two255s).table))
    ∷ []

-- "Basic length 28: 5. List body 8: 9."
abbrev pub short : List ℕ
short = set (frame 0x22 2 16 1 []) 7 28

abbrev pub cases7 : List Row
cases7 =
    row 7 (refused 5) (basic_ended (basic_of short))
    ∷ row 7 (refused 5) (comes [] (receives 0 true short))
    ∷ row 7 (refused 9) (comes [] (receives 0 true (frame 0x22 2 16 1 (1 ∷ 0 ∷ 0 ∷ 8 ∷ replicate 8 0x11))))
    ∷ row 7 (refused 9) (comes [] (receives 0 true (frame 0x22 2 16 1 (2 ∷ 0 ∷ 0 ∷ 8 ∷ replicate 8 0x11))))
    ∷ []

abbrev pub others : List Row
others = cases1 ++ (cases2 ++ (cases4 ++ (cases5 ++ (cases6 ++ cases7))))

abbrev pub bench : List Row
bench = others ++ (shown_cases ++ (cases3 ++ cases8))
