-- A participant with one field set, and octets kept in an array.
use Rattle.std.specs.Prelude.{Bool, List, ℕ, replicate}
use Rattle.std.proofs.lemmas.List.Edits.{sets}
use Rattle.base_mi.specs.declared.Mi.{Mi}
use Rattle.table.specs.declared.Table.{Table}
use Rattle.participant.specs.declared.Slot.{Slot}
use Rattle.participant.specs.declared.Participant.{Participant}

-- The octets of a CKN in its array of 32, of a wrapped key in its array of 24: zeros past their end.
abbrev pub first32 : List ℕ → List ℕ
first32 s = sets (replicate 32 0) 0 s

abbrev pub first24 : List ℕ → List ℕ
first24 s = sets (replicate 24 0) 0 s

abbrev pub set_mi : Mi → Participant → Participant
set_mi x p = record p { mi = x }

abbrev pub set_mn : ℕ → Participant → Participant
set_mn x p = record p { mn = x }

abbrev pub set_mark : Bool → Participant → Participant
set_mark x p = record p { mark = x }

abbrev pub set_clock : ℕ → Participant → Participant
set_clock x p = record p { clock = x }

abbrev pub set_sent : ℕ → Participant → Participant
set_sent x p = record p { sent = x }

abbrev pub set_kn : ℕ → Participant → Participant
set_kn x p = record p { kn = x }

abbrev pub set_distributed : ℕ → Participant → Participant
set_distributed x p = record p { distributed = x }

abbrev pub set_wrapped : List ℕ → Participant → Participant
set_wrapped x p = record p { wrapped = x }

abbrev pub set_table : Table → Participant → Participant
set_table x p = record p { table = x }

abbrev pub set_latest : Slot → Participant → Participant
set_latest x p = record p { latest = x }

abbrev pub set_old : Slot → Participant → Participant
set_old x p = record p { old = x }
