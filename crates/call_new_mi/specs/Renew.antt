-- "A new MI empties the table, sets MN and KN to 0, and clears the mark, the wrapped key and both send and SAK times. Keys stay."
use Rattle.std.specs.Prelude.{ℕ, Bool, false, ◌||◌, List, [], ◌∷◌, replicate}
use Rattle.base_mi.specs.Mi.{mi_same}
use Rattle.base_mi.specs.declared.Mi.{Mi}
use Rattle.table.specs.Table.{empty_table}
use Rattle.participant.specs.declared.Participant.{Participant}
use Rattle.participant.specs.declared.call.Called.{Called}
use Rattle.participant.specs.Record.{set_mi, set_mn, set_kn, set_mark, set_wrapped, set_sent, set_distributed, set_table, set_clock}
use Rattle.participant.specs.Call.{settle, fact1}
use Rattle.participant.specs.Keys.{of_member}

-- 19: "new MI equal to the present one or to the MI of a key on record"
unfoldable pub in_use : Participant → Mi → Bool
in_use p m = mi_same p.mi m || (of_member p.latest m || of_member p.old m)

unfoldable pub renewed : Participant → ℕ → Mi → Participant
renewed p time m =
    set_table empty_table (set_mn 0 (set_kn 0 (set_mark false (set_wrapped (replicate 24 0) (set_sent 0 (set_distributed 0 (set_mi m (set_clock time p))))))))

-- Taking a new MI: 1, 19.
abbrev pub new_mi_facts : Participant → ℕ → Mi → List (ℕ × Bool)
new_mi_facts p time m = (1, fact1 p time) ∷ (19, in_use p m) ∷ []

unfoldable pub new_mi_of : Participant → ℕ → Mi → Called (Unit {0})
new_mi_of p time m = settle p (new_mi_facts p time m) (renewed p time m)
