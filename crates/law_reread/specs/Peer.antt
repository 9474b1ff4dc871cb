-- The peers' records: where their octets stand they are read back, and what is read of clean ones is written again. Proved in PeerArgument.
use Rattle.std.specs.Prelude.{ℕ, ◌+◌, ◌*◌, ◌<◌, ◌≤◌, ◌≡◌, List, Bool, true, length, ltb}
use Rattle.base_octets.specs.Octets.{Octets}
use Rattle.base_octets.proofs.Fields.{Stands}
use Rattle.law_lists.specs.Lists.{every}
use Rattle.table.specs.declared.Peer.{Peer}
use Rattle.image_peer.specs.Peer.{peer_octets, peers_octets, peer_at, peer_clean, peers_at, peers_clean}
use Rattle.law_reread.specs.Fit.{FitPeer, FitPeers}
use Rattle.law_reread.specs.Cut.{cut}

-- one record
pub record Told (f : List ℕ) (p : Peer) (at : ℕ) : Type 0 where
  pub same : peer_at f at ≡ p
  pub clean : peer_clean f at ≡ true

abbrev pub PeerStands : Type 0
PeerStands = (f : List ℕ) (p : Peer) (at : ℕ) → FitPeer p → p.capability < 4 → Stands f (peer_octets p) at → Told f p at

abbrev pub PeerBack : Type 0
PeerBack = (s : List ℕ) (at : ℕ) → Octets s → at + 44 ≤ length s → peer_clean s at ≡ true → peer_octets (peer_at s at) ≡ cut s at 44

-- one after the other
abbrev pub capable : Peer → Bool
capable p = ltb p.capability 4

pub record AllTold (f : List ℕ) (l : List Peer) (at : ℕ) : Type 0 where
  pub same : peers_at f at (length l) ≡ l
  pub clean : peers_clean f at (length l) ≡ true

abbrev pub PeersStand : Type 0
PeersStand = (f : List ℕ) (l : List Peer) (at : ℕ) → FitPeers l → every capable l ≡ true → Stands f (peers_octets l) at → AllTold f l at

abbrev pub PeersBack : Type 0
PeersBack = (s : List ℕ) (at n : ℕ) → Octets s → at + n * 44 ≤ length s → peers_clean s at n ≡ true → peers_octets (peers_at s at n) ≡ cut s at (n * 44)
