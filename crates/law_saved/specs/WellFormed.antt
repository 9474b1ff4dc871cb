-- A well-formed participant: one whose image is well formed and that the image tells whole.
use Rattle.std.specs.Prelude.{◌≡◌, true, cond}
use Rattle.table.specs.Table.{entries}
use Rattle.table_expiry.specs.Kept.{only, Tidy}
use Rattle.participant.specs.Keys.{no_slot, slot_of}
use Rattle.participant.specs.declared.Slot.{Slot}
use Rattle.participant.specs.declared.Participant.{Participant}
use Rattle.image_rules.specs.Rules.{rules}
use Rattle.law_reread.specs.Fit.{FitPeers, FitKey, FitOwn}

-- A slot that holds no key is blank.
abbrev pub TidySlot : Slot → Type 0
TidySlot s = s ≡ cond s.held (slot_of s.key) no_slot

-- Every number has its width; unused slots are blank, and there is an old key only beside a latest one; every rule of "Well formed" holds.
pub record WellFormed (p : Participant) : Type 0 where
  pub own : FitOwn p
  pub peers : FitPeers (entries p.table)
  pub latest_key : FitKey p.latest.key
  pub old_key : FitKey p.old.key
  pub table : Tidy p.table
  pub latest : TidySlot p.latest
  pub old : TidySlot p.old
  pub order : only p.old.held p.latest.held ≡ true
  pub kept : rules p ≡ true
