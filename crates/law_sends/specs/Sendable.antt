-- A participant whose fields fit their places in a frame.
use Rattle.std.specs.Prelude.{◌+◌, ◌^◌, ◌≤◌, ◌<◌, ◌≡◌, true, List, [], ◌∷◌, length}
use Rattle.base_mi.specs.Fitting.{Fitting}
use Rattle.table.specs.Table.{entries}
use Rattle.table.specs.declared.Peer.{Peer}
use Rattle.participant.specs.declared.Slot.{Slot}
use Rattle.participant.specs.declared.Participant.{Participant}

abbrev pub GoodPeers : List Peer → Type 0
GoodPeers [] = Unit {0}
GoodPeers (p ∷ ps) = Fitting p.mi × (p.mn < 2 ^ 32) × GoodPeers ps

pub record GoodSlot (s : Slot) : Type 0 where
  pub an : s.key.an < 4
  pub confidentiality : s.key.confidentiality < 4
  pub mi : Fitting s.key.mi
  pub kn : s.key.kn < 2 ^ 32
  pub some : s.held ≡ true → 0 < s.key.kn

-- What the types of the record's fields and the creating ranges say; a key on record has a number.
pub record Sendable (p : Participant) : Type 0 where
  pub capability : p.capability < 4
  pub sci : p.sci < 2 ^ 64
  pub mi : Fitting p.mi
  pub mn : p.mn + 1 < 2 ^ 32
  pub some : 1 ≤ p.size
  pub most : p.size ≤ 32
  pub ckn : length p.ckn ≡ 32
  pub wrapped : length p.wrapped ≡ 24
  pub peers : GoodPeers (entries p.table)
  pub latest : GoodSlot p.latest
  pub old : GoodSlot p.old
