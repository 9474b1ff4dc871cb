-- "Distributing adds 1 to KN, takes AN .., confidentiality .., clears the mark, and keeps the time and the wrapped key."
use Rattle.std.specs.Prelude.{ℕ, ◌+◌, ◌%◌, Bool, false, cond, not, List, [], ◌∷◌, length, eqb}
use Rattle.base_facts.specs.Numbers.{last_number}
use Rattle.participant.specs.declared.Key.{Key}
use Rattle.participant.specs.declared.Slot.{Slot}
use Rattle.participant.specs.declared.Participant.{Participant}
use Rattle.participant.specs.declared.call.Called.{Called}
use Rattle.participant.specs.Record.{first24, set_kn, set_mark, set_distributed, set_wrapped}
use Rattle.participant.specs.Call.{settle, fact1, aged_to}
use Rattle.participant.specs.Keys.{with_key}
use Rattle.call_standing.specs.Standing.{fresh_due}

-- "AN = latest's AN + 1 modulo 4 (0 if no key; here)"
unfoldable pub next_an : Slot → ℕ
next_an s = cond s.held ((s.key.an + 1) % 4) 0

-- "confidentiality 1 (offset 0), or 0 if our capability is 1 (here)"
unfoldable pub confidentiality_of : ℕ → ℕ
confidentiality_of capability = cond (eqb capability 1) 0 1

-- "this key .. neither received nor sent with"; "suite 8 (0 for a 28 body)"
unfoldable pub fresh_key : Participant → Key
fresh_key p =
    record {
      mi = p.mi;
      kn = p.kn + 1;
      suite = 0;
      an = next_an p.latest;
      confidentiality = confidentiality_of p.capability;
      receive = false;
      transmit = false;
    }

unfoldable pub with_fresh : Participant → List ℕ → Participant
with_fresh p wrapped = set_kn (p.kn + 1) (set_mark false (set_distributed p.clock (set_wrapped wrapped (with_key p (fresh_key p)))))

-- Distribute: 1, 15, 17, 14. 17 is "judged at the call's time, on the table as expiry would then make it".
abbrev pub distribute_facts : Participant → ℕ → List ℕ → List (ℕ × Bool)
distribute_facts p time wrapped =
    (1, fact1 p time)
    ∷ (15, not (eqb (length wrapped) 24))
    ∷ (17, not (fresh_due (aged_to p time)))
    ∷ (14, eqb p.kn last_number)
    ∷ []

unfoldable pub distributed_of : Participant → ℕ → List ℕ → Called (Unit {0})
distributed_of p time wrapped = settle p (distribute_facts p time wrapped) (with_fresh (aged_to p time) (first24 wrapped))
