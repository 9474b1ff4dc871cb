-- The table after any history: at most 16 entries, no identifier twice, and never our own. Proved in TableArgument.
use Rattle.std.specs.Prelude.{◌≤◌, ◌≡◌, length, Ok}
use mathlib.Core.List.{List, ◌∷◌, ◌++◌, Memᴰ}
use Rattle.table.specs.Table.{entries}
use Rattle.table.specs.declared.Peer.{Peer}
use Rattle.law_history.specs.Calls.{Creation, created, Call, after, identifier}

abbrev pub peers_after : Creation → List Call → List Peer
peers_after k cs = entries (after k cs).table

-- "At most 16 peers", and the count is their number
abbrev pub NeverOver16 : Type 0
NeverOver16 = (k : Creation) → (created k).answer ≡ Ok tt → (cs : List Call) → ((after k cs).table.count ≡ length (peers_after k cs)) × (length (peers_after k cs) ≤ 16)

abbrev pub NeverTwice : Type 0
NeverTwice =
    (k : Creation) → (created k).answer ≡ Ok tt → (cs : List Call) (a b c : List Peer) (x y : Peer)
    → peers_after k cs ≡ a ++ (x ∷ (b ++ (y ∷ c))) → x.mi ≡ y.mi → ⊥

abbrev pub NeverOurselves : Type 0
NeverOurselves = (k : Creation) → (created k).answer ≡ Ok tt → (cs : List Call) (x : Peer) → Memᴰ x (peers_after k cs) → x.mi ≡ identifier k cs → ⊥
