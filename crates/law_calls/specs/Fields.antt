-- What each call leaves alone, accepted or refused: the participant afterwards is the one before with the named fields set; and what it
-- sets. Proved in FieldsArgument.
use Rattle.std.specs.Prelude.{ℕ, ◌+◌, ◌<◌, ◌≡◌, Bool, false, List, replicate, Ok}
use Rattle.base_mi.specs.declared.Mi.{Mi}
use Rattle.table.specs.Table.{empty_table}
use Rattle.table_expiry.specs.Expiry.{expired}
use Rattle.participant.specs.declared.Slot.{Slot}
use Rattle.participant.specs.declared.Participant.{Participant}
use Rattle.participant.specs.Record.{first24, set_mi, set_mn, set_mark, set_clock, set_sent, set_kn, set_distributed, set_wrapped, set_table, set_latest, set_old}
use Rattle.call_tick.specs.Tick.{ticked}
use Rattle.call_creation.specs.Create.{fresh, created_of}
use Rattle.participant.specs.Keys.{no_slot, slot_of}
use Rattle.call_new_mi.specs.Renew.{new_mi_of}
use Rattle.call_report.specs.Report.{misreported, installed, reported}
use Rattle.call_distribute.specs.Distribute.{next_an, fresh_key, distributed_of}

abbrev pub TickLeaves : Type 0
TickLeaves = (p : Participant) (time : ℕ) → let q = (ticked p time).participant in q ≡ set_clock q.clock (set_table q.table p)

-- A key with what the host reported of it set.
abbrev pub set_flags : Bool → Bool → Slot → Slot
set_flags receive transmit s = record s { key = record s.key { receive = receive; transmit = transmit } }

-- of the keys, only the flags of the latest
abbrev pub ReportLeaves : Type 0
ReportLeaves =
    (p : Participant) (m : Mi) (kn : ℕ) (transmit : Bool)
    → let q = (reported p m kn transmit).participant in q ≡ set_latest (set_flags q.latest.key.receive q.latest.key.transmit p.latest) p

abbrev pub NewMiLeaves : Type 0
NewMiLeaves =
    (p : Participant) (time : ℕ) (m : Mi)
    → let q = (new_mi_of p time m).participant in
    q ≡ set_table q.table (set_mn q.mn (set_kn q.kn (set_mark q.mark (set_wrapped q.wrapped (set_sent q.sent (set_distributed q.distributed (set_mi q.mi (set_clock q.clock p))))))))

abbrev pub DistributeLeaves : Type 0
DistributeLeaves =
    (p : Participant) (time : ℕ) (w : List ℕ)
    → let q = (distributed_of p time w).participant in
    q ≡ set_kn q.kn (set_mark q.mark (set_distributed q.distributed (set_wrapped q.wrapped (set_latest q.latest (set_old q.old (set_clock q.clock (set_table q.table p)))))))

-- What an accepted distribution sets.
pub record Handed (p : Participant) (time : ℕ) (w : List ℕ) (q : Participant) : Type 0 where
  pub kn : q.kn ≡ p.kn + 1
  pub mark : q.mark ≡ false
  pub distributed : q.distributed ≡ time
  pub wrapped : q.wrapped ≡ first24 w
  pub table : q.table ≡ expired time p.table
  pub latest : q.latest ≡ slot_of (fresh_key p)
  pub old : q.old ≡ p.latest

abbrev pub DistributeHands : Type 0
DistributeHands = (p : Participant) (time : ℕ) (w : List ℕ) → (distributed_of p time w).answer ≡ Ok tt → Handed p time w (distributed_of p time w).participant

-- "AN .. modulo 4"
abbrev pub AnBelow : Type 0
AnBelow = (s : Slot) → next_an s < 4

-- What holds where there is nothing yet: "MN and KN are 0, everything else empty".
pub record Empty (q : Participant) : Type 0 where
  pub mn : q.mn ≡ 0
  pub kn : q.kn ≡ 0
  pub mark : q.mark ≡ false
  pub sent : q.sent ≡ 0
  pub distributed : q.distributed ≡ 0
  pub wrapped : q.wrapped ≡ replicate 24 0
  pub table : q.table ≡ empty_table

abbrev pub FreshEmpty : Type 0
FreshEmpty = (time : ℕ) (mi : Mi) (sci priority capability : ℕ) (desired : Bool) (ckn : List ℕ) → Empty (fresh time mi sci priority capability desired ckn)

-- a created participant has nothing, and no key; a refused one neither
abbrev pub CreateEmpty : Type 0
CreateEmpty =
    (time : ℕ) (mi : Mi) (sci priority capability : ℕ) (desired : Bool) (ckn : List ℕ)
    → let q = (created_of time mi sci priority capability desired ckn).participant in Empty q × ((q.latest ≡ no_slot) × (q.old ≡ no_slot))

-- an accepted new MI empties all of it but the keys
abbrev pub NewMiEmpties : Type 0
NewMiEmpties = (p : Participant) (time : ℕ) (m : Mi) → (new_mi_of p time m).answer ≡ Ok tt → let q = (new_mi_of p time m).participant in Empty q × (q.mi ≡ m)

-- an accepted report is of the latest key, whose flag it sets
abbrev pub ReportSets : Type 0
ReportSets =
    (p : Participant) (m : Mi) (kn : ℕ) (transmit : Bool) → (reported p m kn transmit).answer ≡ Ok tt
    → (misreported p.latest m kn transmit ≡ false) × ((reported p m kn transmit).participant.latest ≡ installed p.latest transmit)
