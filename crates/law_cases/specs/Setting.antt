-- Who and what the bench cases speak of: case 1's participant, frames of peers, and calls on it.
use Rattle.std.specs.Prelude.{ℕ, zero, suc, ◌+◌, ◌*◌, Bool, true, List, [], ◌∷◌, ◌++◌, length, replicate}
use Rattle.base_mi.specs.declared.Mi.{Mi}
use Rattle.table_lookup.specs.Look.{held_in, live_for, potential_for}
use Rattle.participant.specs.declared.Participant.{Participant}
use Rattle.law_history.specs.Calls.{Creation, Call, receives, sends, after, answer_of}
use Rattle.law_cases.specs.Row.{Outcome, yes-no, ended}

-- "MI 11 twelve times": the MI of one octet, twelve times
abbrev pub twelve : ℕ → Mi
twelve m = record { hi = m * 0x0101010101010101; lo = m * 0x01010101 }

-- Case 1, with any priority: "MI 11 twelve times, SCI 02-00-00-00-00-01-00-01, priority 16, capability 2, desired, CKN 41-42-43-44, time 0"
abbrev pub of_priority : ℕ → Creation
of_priority priority = record {
  time = 0;
  mi = twelve 0x11;
  sci = 0x0200000000010001;
  priority = priority;
  capability = 2;
  desired = true;
  ckn = 0x41 ∷ 0x42 ∷ 0x43 ∷ 0x44 ∷ [];
}

abbrev pub case1 : Creation
case1 = of_priority 16

-- The participant that it gives.
abbrev pub first : Participant
first = after case1 []

-- A frame of the peer with MI m twelve times, SCI 02-00-00-00-00-01-00-port, the Key Server flag, desired, capability 2 and case 1's CKN.
abbrev pub frame : ℕ → ℕ → ℕ → ℕ → List ℕ → List ℕ
frame m port priority mn further =
    3 ∷ 5 ∷ 0 ∷ (52 + length further)
    ∷ 1 ∷ priority ∷ 0xe0 ∷ 32 ∷ 2 ∷ 0 ∷ 0 ∷ 0 ∷ 0 ∷ 1 ∷ 0 ∷ port
    ∷ (replicate 12 m
    ++ (0 ∷ 0 ∷ 0 ∷ mn ∷ 0x00 ∷ 0x80 ∷ 0xc2 ∷ 0x01 ∷ 0x41 ∷ 0x42 ∷ 0x43 ∷ 0x44
    ∷ (further ++ replicate 16 0)))

-- A Live list with one entry: case 1's MI with the number n.
abbrev pub naming : ℕ → List ℕ
naming n = 1 ∷ 0 ∷ 0 ∷ 16 ∷ (replicate 12 0x11 ++ (0 ∷ 0 ∷ 0 ∷ n ∷ []))

-- n sends, each into 56 octets of ones
abbrev pub sendings : ℕ → List Call
sendings zero = []
sendings (suc n) = sends 0 0 0 (replicate 56 0xff) ∷ sendings n

-- n peers that name nobody, one every millisecond from 0 on
abbrev pub comers : ℕ → List Call
comers zero = []
comers (suc n) = receives n true (frame (0x80 + n) 2 16 1 []) ∷ comers n

-- How a call after the others comes out.
abbrev pub comes : List Call → Call → Outcome
comes cs c = ended (answer_of (after case1 cs) c)

-- The peer with MI 22 twelve times is Live; it is Potential.
abbrev pub others_live : Participant → Bool
others_live p = live_for (held_in (twelve 0x22) p.table)

abbrev pub live : List Call → Outcome
live cs = yes-no (others_live (after case1 cs))

abbrev pub potential : List Call → Outcome
potential cs = yes-no (potential_for (held_in (twelve 0x22) (after case1 cs).table))
