-- The argument for Alone: what the first fact's number decides.
use Rattle.std.specs.Prelude.{ℕ, ◌≡◌, refl, Bool, true, List, ◌↔◌}
use Rattle.std.proofs.Common.{sym, ◌∙◌}
use Rattle.std.proofs.Math.Option.{Option, some}
use Rattle.base_facts.specs.Facts.{first_of}
use Rattle.base_facts.specs.Refusal.{number_in}
use Rattle.base_facts.proofs.Laws.{known, told_number}
use Rattle.frame.specs.Basic.{basic_facts, basic_of}
use Rattle.participant.specs.Call.{settle}
use Rattle.participant.specs.declared.Participant.{Participant}
use Rattle.participant.specs.First.{numbered, First}
use Rattle.call_creation.specs.Create.{created_of}
use Rattle.image_reading.specs.Read.{read_of}
use Rattle.law_history.specs.Calls.{created}
use Rattle.law_history.proofs.RefusalsArgument.{shown, exactly, answer-shows}
use Rattle.law_reached.specs.Alone.{CreateRefused, ReadRefused, SetsRefused}

-- an answer that shows the first fact's number
by-number : (a : Option ℕ) (fs : List (ℕ × Bool)) → numbered fs ≡ true → (n : ℕ) → a ≡ shown (first_of fs) → (a ≡ some n) ↔ First fs n
by-number a fs k n t = let r = exactly fs k n in (λ e. r.0 (sym t ∙ e), λ f. t ∙ r.1 f)

settles-exactly : (p q : Participant) (fs : List (ℕ × Bool)) → numbered fs ≡ true → known fs ≡ true → (n : ℕ) → (number_in (settle p fs q).answer ≡ some n) ↔ First fs n
settles-exactly p q fs k l n = by-number _ fs k n (answer-shows p q fs tt l)

pub create-refused : CreateRefused
unfolding created created_of
create-refused k n = settles-exactly _ _ _ refl refl n

pub read-refused : ReadRefused
unfolding read_of
read-refused s n = settles-exactly _ _ _ refl refl n

pub sets-refused : SetsRefused
unfolding basic_of
sets-refused s n = by-number _ (basic_facts s) refl n (told_number (basic_facts s) _ refl)
