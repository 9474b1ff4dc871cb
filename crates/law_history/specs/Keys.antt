-- Where a key on record comes from: a distribution of ours or a frame of an elected peer's handed it out, with just this MI and KN.
-- Proved in KeysArgument.
use Rattle.std.specs.Prelude.{ℕ, ◌+◌, ◌≡◌, Bool, true, List, ◌∷◌, ◌⊎◌, Ok, Option, Some}
use Rattle.frame_sets.specs.Kinds.{sak_in}
use Rattle.frame_places.specs.declared.Spot.{Spot}
use Rattle.frame_sets.specs.declared.kinds.SakHeader.{SakHeader}
use Rattle.table_lookup.specs.Look.{held_in, live_for}
use Rattle.table_election.specs.declared.Server.TheVariants.{Elected}
use Rattle.call_standing.specs.Standing.{server_of, elected_self}
use Rattle.call_distribute.specs.Distribute.{next_an, confidentiality_of}
use Rattle.participant.specs.declared.Key.{Key}
use Rattle.call_judge.specs.Judge.{basic_in, walk_in, places_in}
use Rattle.law_history.specs.Calls.{Creation, created, Call, receives, distributes, after, identifier, keys_distributed, Made}

-- An accepted distribution handed the key out: ours, the next after those that we distributed, and we were elected at that time.
pub record Ours (k : Creation) (cs : List Call) (key : Key) : Type 0 where
  pub time : ℕ
  pub wrapped : List ℕ
  pub made : Made k cs (distributes time wrapped)
  pub elected : elected_self (after k (distributes time wrapped ∷ made.earlier)) ≡ true
  pub mi : key.mi ≡ identifier k made.earlier
  pub kn : key.kn ≡ keys_distributed k made.earlier + 1
  pub an : key.an ≡ next_an (after k made.earlier).latest
  pub confidentiality : key.confidentiality ≡ confidentiality_of k.capability
  pub suite : key.suite ≡ 0

-- The Distributed SAK set of a frame, where the walk finds it, if the frame has one; and what it says.
abbrev pub sak_spot : List ℕ → Option Spot
sak_spot frame = (places_in (walk_in frame)).sak

abbrev pub sak_read : List ℕ → Spot → SakHeader
sak_read frame spot = sak_in frame spot.place spot.len

-- An accepted frame handed the key out: its sender was Live and elected after the frame's update.
pub record Theirs (k : Creation) (cs : List Call) (key : Key) : Type 0 where
  pub time : ℕ
  pub verdict : Bool
  pub frame : List ℕ
  pub made : Made k cs (receives time verdict frame)
  pub live : live_for (held_in key.mi (after k (receives time verdict frame ∷ made.earlier)).table) ≡ true
  pub elected : server_of (after k (receives time verdict frame ∷ made.earlier)) ≡ Elected key.mi
  pub spot : Spot
  pub present : sak_spot frame ≡ Some spot
  pub filled : spot.len ≡ 0 → ⊥
  pub mi : key.mi ≡ (basic_in frame).mi
  pub kn : key.kn ≡ (sak_read frame spot).kn
  pub an : key.an ≡ (sak_read frame spot).an
  pub confidentiality : key.confidentiality ≡ (sak_read frame spot).confidentiality
  pub suite : key.suite ≡ (sak_read frame spot).suite

abbrev pub CameFrom : Creation → List Call → Key → Type 0
CameFrom k cs key = Ours k cs key ⊎ Theirs k cs key

abbrev pub LatestHandedOut : Type 0
LatestHandedOut = (k : Creation) → (created k).answer ≡ Ok tt → (cs : List Call) → (after k cs).latest.held ≡ true → CameFrom k cs (after k cs).latest.key

abbrev pub OldHandedOut : Type 0
OldHandedOut = (k : Creation) → (created k).answer ≡ Ok tt → (cs : List Call) → (after k cs).old.held ≡ true → CameFrom k cs (after k cs).old.key
