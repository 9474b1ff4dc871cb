-- A row of the table of bench cases: the case's number, what SCOPE says comes out, and what the definitions give.
use Rattle.std.specs.Prelude.{ℕ, Bool, ◌≡◌, refl, List, [], ◌∷◌, ◌++◌, map, Result, Ok, Err}
use Rattle.std.proofs.Common.{sym, ◌∙◌, ap₂}
use Rattle.std.proofs.lemmas.List.{map-append}
use Rattle.base_facts.specs.declared.Refusal.{Refusal}
use Rattle.base_facts.specs.Refusal.{number_of}
use Rattle.frame.specs.declared.Basic.{Basic}
use Rattle.table_election.specs.declared.Server.{Server}
use Rattle.law_history.specs.Calls.{Answer, to_receive, to_send, to_call, to_ask, to_save}

-- What comes out.
pub data Outcome : Type 0 where
  accepted : Outcome
  refused : ℕ → Outcome
  octets : List ℕ → Outcome
  number : ℕ → Outcome
  yes-no : Bool → Outcome
  elects : Server → Outcome

pub record Row : Type 0 where
  pub no : ℕ
  pub expected : Outcome
  pub given : Outcome

abbrev pub row : ℕ → Outcome → Outcome → Row
row n e g = record { no = n; expected = e; given = g }

-- Every row's definitions give what the case says.
abbrev pub Right : List Row → Type 0
Right rs = map (λ (r : Row). r.given) rs ≡ map (λ (r : Row). r.expected) rs

pub both : (rs rs' : List Row) → Right rs → Right rs' → Right (rs ++ rs')
both rs rs' h h' = map-append (λ (r : Row). r.given) rs rs' ∙ (ap₂ ◌++◌ h h' ∙ sym (map-append (λ (r : Row). r.expected) rs rs'))

-- The same row by row, which is computed in fewer steps.
abbrev pub Each : List Row → Type 0
Each [] = Unit {0}
Each (r ∷ rs) = (r.given ≡ r.expected) × Each rs

pub each : (rs : List Row) → Each rs → Right rs
each [] h = refl
each (r ∷ rs) h = ap₂ ◌∷◌ h.0 (each rs h.1)

-- How what answers comes out: what it gives, or the number of its refusal.
abbrev pub outcome : {A : Type 0} → (A → Outcome) → Result A Refusal → Outcome
outcome gives (Ok x) = gives x
outcome gives (Err why) = refused (number_of why)

-- How a call comes out.
abbrev pub ended : Answer → Outcome
ended (to_receive a) = outcome (λ _. accepted) a
ended (to_send a out) = outcome number a
ended (to_call a) = outcome (λ _. accepted) a
ended (to_ask p) = accepted
ended (to_save a out) = outcome number a

-- How the reading of a Basic set comes out.
abbrev pub basic_ended : Result Basic Refusal → Outcome
basic_ended = outcome (λ _. accepted)
