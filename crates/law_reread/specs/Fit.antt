-- What the types of a participant's fields hold: each number has its width, each array its length.
use Rattle.std.specs.Prelude.{◌^◌, ◌<◌, ◌≡◌, List, [], ◌∷◌, length}
use Rattle.base_mi.specs.Fitting.{Fitting}
use Rattle.table.specs.declared.Peer.{Peer}
use Rattle.participant.specs.declared.Key.{Key}
use Rattle.participant.specs.declared.Participant.{Participant}

pub record FitPeer (p : Peer) : Type 0 where
  pub mi : Fitting p.mi
  pub mn : p.mn < 2 ^ 32
  pub sci : p.sci < 2 ^ 64
  pub accepted : p.accepted < 2 ^ 64
  pub proof : p.proof < 2 ^ 64

abbrev pub FitPeers : List Peer → Type 0
FitPeers [] = Unit {0}
FitPeers (p ∷ ps) = FitPeer p × FitPeers ps

pub record FitKey (k : Key) : Type 0 where
  pub mi : Fitting k.mi
  pub kn : k.kn < 2 ^ 32
  pub suite : k.suite < 2 ^ 64

pub record FitOwn (p : Participant) : Type 0 where
  pub mi : Fitting p.mi
  pub mn : p.mn < 2 ^ 32
  pub sci : p.sci < 2 ^ 64
  pub clock : p.clock < 2 ^ 64
  pub sent : p.sent < 2 ^ 64
  pub kn : p.kn < 2 ^ 32
  pub distributed : p.distributed < 2 ^ 64
  pub ckn : length p.ckn ≡ 32
  pub wrapped : length p.wrapped ≡ 24
