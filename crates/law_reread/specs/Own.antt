-- The own record: where its octets stand it is read back, and what is read of a clean one is written again. Proved in OwnArgument.
use Rattle.std.specs.Prelude.{ℕ, ◌+◌, ◌≤◌, ◌≡◌, List, true, length}
use Rattle.base_octets.specs.Number.{be_at}
use Rattle.base_octets.specs.Octets.{Octets}
use Rattle.base_octets.proofs.Fields.{Stands}
use Rattle.table.specs.Table.{empty_table}
use Rattle.participant.specs.Record.{set_table, set_latest, set_old}
use Rattle.participant.specs.Keys.{no_slot}
use Rattle.participant.specs.declared.Participant.{Participant}
use Rattle.image_own.specs.Own.{own_octets, own_at, own_clean}
use Rattle.law_reread.specs.Fit.{FitOwn}
use Rattle.law_reread.specs.Cut.{cut}

-- The participant without its peers and keys.
abbrev pub alone : Participant → Participant
alone p = set_table empty_table (set_latest no_slot (set_old no_slot p))

pub record Told (f : List ℕ) (p : Participant) (at : ℕ) : Type 0 where
  pub same : own_at f at ≡ alone p
  pub clean : own_clean f at ≡ true

abbrev pub OwnStands : Type 0
OwnStands = (f : List ℕ) (p : Participant) (at : ℕ) → FitOwn p → p.size ≤ 32 → Stands f (own_octets p) at → Told f p at

abbrev pub OwnBack : Type 0
OwnBack = (s : List ℕ) (at : ℕ) → Octets s → at + 116 ≤ length s → own_clean s at ≡ true → be_at s (at + 56) 4 ≤ 32 → own_octets (own_at s at) ≡ cut s at 116
