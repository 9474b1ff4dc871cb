-- Who is Live after a history: exactly those of whom a proof was received less than a life time before the clock, since we took our
-- identifier. Proved in LiveArgument.
use Rattle.std.specs.Prelude.{ℕ, ◌+◌, ◌<◌, ◌≡◌, Bool, true, ◌↔◌, Ok, Option, Some, None}
use mathlib.Core.List.{List, [], ◌∷◌, ◌++◌, Memᴰ}
use Rattle.base_mi.specs.declared.Mi.{Mi}
use Rattle.base_mi.specs.declared.entry.Entry.{Entry}
use Rattle.frame_places.specs.declared.Spot.{Spot}
use Rattle.frame_walk.specs.List.{entries_in}
use Rattle.table_expiry.specs.Expiry.{life_time}
use Rattle.table_lookup.specs.Look.{held_in, live_for}
use Rattle.call_judge.specs.Judge.{basic_in, walk_in, places_in}
use Rattle.call_hearing.specs.Proof.{window}
use Rattle.law_history.specs.Calls.{Creation, created, Call, receives, after, identifier, numbers_sent, Made, NoneTaken}
use Rattle.law_history.specs.Recent.{Recent}

-- The entries of a list, none where the frame hasn't the list.
abbrev pub entries_at : List ℕ → Option Spot → List Entry
entries_at frame None = []
entries_at frame (Some list) = entries_in frame list.place list.len

-- The entries of a frame's Live and Potential lists, where the walk over its sets finds them.
abbrev pub listed : List ℕ → List Entry
listed frame = let w = places_in (walk_in frame) in entries_at frame w.live ++ entries_at frame w.potential

-- A proof of m at a time: an accepted frame of m's, and since then no new identifier was taken; its Live or Potential list has our
-- identifier with a number that was recent by then, of those sent under it.
pub record Proof (many : ℕ) (k : Creation) (cs : List Call) (m : Mi) (time : ℕ) : Type 0 where
  pub verdict : Bool
  pub frame : List ℕ
  pub made : Made k cs (receives time verdict frame)
  pub sender : (basic_in frame).mi ≡ m
  pub since : NoneTaken k made.later (receives time verdict frame ∷ made.earlier)
  pub number : ℕ
  pub named : Memᴰ (record { mi = identifier k cs; mn = number }) (listed frame)
  pub recent : Recent many number (numbers_sent k made.earlier)

-- ".. less than 6,000 ms before the clock": a life time, and one of the last so many numbers
pub record ProvedLately (life many : ℕ) (k : Creation) (cs : List Call) (m : Mi) : Type 0 where
  pub time : ℕ
  pub proof : Proof many k cs m time
  pub lately : (after k cs).clock < time + life

abbrev pub is_live_after : Creation → List Call → Mi → Bool
is_live_after k cs m = live_for (held_in m (after k cs).table)

-- Both directions, for every identifier, also one that is not in the table.
abbrev pub LiveExactly : Type 0
LiveExactly = (k : Creation) → (created k).answer ≡ Ok tt → (m : Mi) (cs : List Call) → (is_live_after k cs m ≡ true) ↔ ProvedLately life_time window k cs m
