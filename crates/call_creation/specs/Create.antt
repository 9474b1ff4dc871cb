-- "Creating takes a time, MI, SCI, priority, capability, desired flag and CKN; MN and KN are 0, everything else empty."
use Rattle.std.specs.Prelude.{ℕ, Bool, false, ◌||◌, List, [], ◌∷◌, length, replicate, ltb, eqb}
use Rattle.base_mi.specs.declared.Mi.{Mi}
use Rattle.table.specs.Table.{empty_table}
use Rattle.participant.specs.declared.Participant.{Participant}
use Rattle.participant.specs.declared.call.Called.{Called}
use Rattle.participant.specs.Record.{first32}
use Rattle.participant.specs.Call.{settle}
use Rattle.participant.specs.Keys.{no_slot}

-- 15: "creating with CKN outside 1 to 32 or capability outside 1 to 3"
abbrev pub bad_start : ℕ → ℕ → Bool
bad_start n capability = (eqb n 0 || ltb 32 n) || (eqb capability 0 || ltb 3 capability)

unfoldable pub fresh : ℕ → Mi → ℕ → ℕ → ℕ → Bool → List ℕ → Participant
fresh time mi sci priority capability desired ckn =
    record {
      mi = mi;
      mn = 0;
      sci = sci;
      priority = priority;
      capability = capability;
      desired = desired;
      mark = false;
      clock = time;
      sent = 0;
      kn = 0;
      distributed = 0;
      size = length ckn;
      ckn = first32 ckn;
      wrapped = replicate 24 0;
      table = empty_table;
      latest = no_slot;
      old = no_slot;
    }

-- What a refused creation answers: nothing in it.
unfoldable pub empty_participant : Participant
empty_participant = fresh 0 (record { hi = 0; lo = 0 }) 0 0 0 false []

-- Create: 15.
unfoldable pub created_of : ℕ → Mi → ℕ → ℕ → ℕ → Bool → List ℕ → Called (Unit {0})
created_of time mi sci priority capability desired ckn =
    settle empty_participant ((15, bad_start (length ckn) capability) ∷ []) (fresh time mi sci priority capability desired ckn)
