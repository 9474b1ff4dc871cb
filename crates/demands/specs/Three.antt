-- 3. "From a fresh participant, after any calls, a peer is Live exactly when an accepted frame of its, received since we took our present
-- identifier and less than 6,000 ms before the clock, listed that identifier with one of the last four numbers we had by then sent under it
-- since taking it. At most 16 peers stand in the table, none twice, never ourselves. Each key on record was handed out by us while we were
-- elected, or came in a frame from a peer that was Live and elected at that moment." "The clock is the latest time in a call that succeeded."
use Rattle.std.specs.Prelude.{◌≤◌, ◌≡◌, true, ◌↔◌, ◌⊎◌, length, Ok}
use mathlib.Core.List.{List, ◌∷◌, ◌++◌, Memᴰ}
use Rattle.base_mi.specs.declared.Mi.{Mi}
use Rattle.table.specs.declared.Peer.{Peer}
use Rattle.law_history.specs.Calls.{Creation, created, Call, after, identifier}
use Rattle.law_history.specs.Live.{is_live_after, ProvedLately}
use Rattle.law_history.proofs.LiveArgument.{live-exactly}
use Rattle.law_history.specs.Table.{peers_after}
use Rattle.law_history.proofs.TableArgument.{never-over-16, never-twice, never-ourselves}
use Rattle.law_history.specs.Keys.{Ours, Theirs}
use Rattle.law_history.proofs.KeysArgument.{latest-handed-out, old-handed-out}
use Rattle.law_history.specs.Clock.{Latest}
use Rattle.law_history.proofs.ClockArgument.{clock-latest}

-- k is an accepted creation, cs any calls after it, accepted or refused, the newest first.
pub record Three : Type 0 where
  -- "a peer is Live exactly when .. less than 6,000 ms .. the last four numbers ..": both directions, for every identifier
  pub live : (k : Creation) → (created k).answer ≡ Ok tt → (m : Mi) (cs : List Call) → (is_live_after k cs m ≡ true) ↔ ProvedLately 6000 4 k cs m
  -- "At most 16 peers stand in the table"
  pub at_most : (k : Creation) → (created k).answer ≡ Ok tt → (cs : List Call) → ((after k cs).table.count ≡ length (peers_after k cs)) × (length (peers_after k cs) ≤ 16)
  -- "none twice"
  pub distinct : (k : Creation) → (created k).answer ≡ Ok tt → (cs : List Call) (a b c : List Peer) (x y : Peer)
      → peers_after k cs ≡ a ++ (x ∷ (b ++ (y ∷ c))) → x.mi ≡ y.mi → ⊥
  -- "never ourselves"
  pub others : (k : Creation) → (created k).answer ≡ Ok tt → (cs : List Call) (x : Peer) → Memᴰ x (peers_after k cs) → x.mi ≡ identifier k cs → ⊥
  -- "Each key on record was handed out by us while we were elected, or came in a frame from a peer that was Live and elected at that moment."
  pub latest : (k : Creation) → (created k).answer ≡ Ok tt → (cs : List Call) → (after k cs).latest.held ≡ true
      → Ours k cs (after k cs).latest.key ⊎ Theirs k cs (after k cs).latest.key
  pub old : (k : Creation) → (created k).answer ≡ Ok tt → (cs : List Call) → (after k cs).old.held ≡ true
      → Ours k cs (after k cs).old.key ⊎ Theirs k cs (after k cs).old.key
  -- "The clock is the latest time in a call that succeeded."
  pub clock : (k : Creation) → (created k).answer ≡ Ok tt → (cs : List Call) → Latest k cs (after k cs).clock

pub three : Three
three =
    record {
      live = live-exactly;
      at_most = never-over-16;
      distinct = never-twice;
      others = never-ourselves;
      latest = latest-handed-out;
      old = old-handed-out;
      clock = clock-latest;
    }
