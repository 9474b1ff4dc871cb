-- "Any pair of answers allowed by one statement is shown to be the same answer."
use Rattle.std.specs.Prelude.{ℕ, ◌*◌, ◌^◌, ◌<◌, ◌≡◌, List}
use Rattle.std.proofs.Common.{sym, ◌∙◌}
use base.Logic.{emp, ent, sep}
use contract.BorrowLft.{◌⊑◌}
use contract.Fact.{fact as life}
use contract.Lifetimes.{Lfts}
use base.Fml.{Lft}
use contract.Monad.{fact, fact_i, fact_use}
use denote.RattleType.{RattleType}
use denote.Signature.{Signature}
use denote.Triple.Clauses.{Ended, AtExit}
use borrow.Fn.Kinds.{ParamKind, ResultKind, Out, Dens, res_t, ended_of}
use borrow.Fn.World.{World, Pr, ArgsD, ResD}

-- A function's statement as its callers learn it: of the arguments a, the answer z, and e, what the parameters are at the exit.
-- Its module has the kinds of its parameters (`Kinds.ps`) and of its answer (`Kinds.r`), and the statement (`Reads.Learnt`).
module _ {n : ℕ} (ps : List (ParamKind n)) (r : ResultKind n) (Says : Out n ps r) where
  -- Any two answers that it allows to the same arguments are equal.
  abbrev pub OneAnswer : Type 0
  OneAnswer = (κs : Lfts n) (a : Dens κs ps) (z z' : (res_t r κs).Denot) (e e' : AtExit (ended_of n ps r) κs) → Says κs a z e → Says κs a z' e' → z ≡ z'

  module _ {A : Type 0} (see : (κs : Lfts n) → (res_t r κs).Denot → AtExit (ended_of n ps r) κs → A) where
    -- The same of what is seen of an answer: the octets of a part that is handed back, or those that a lent output is left with.
    abbrev pub OneSeen : Type 0
    OneSeen = (κs : Lfts n) (a : Dens κs ps) (z z' : (res_t r κs).Denot) (e e' : AtExit (ended_of n ps r) κs) → Says κs a z e → Says κs a z' e' → see κs z e ≡ see κs z' e'

-- Every public function asks nothing: its `requires` is the empty claim, in every model of the logic.
module _ (S : Signature) (requires : (κs : Lfts S.lifetimes) → ArgsD S κs → Unit {0} → (w : World) → Pr w) where
  abbrev pub AsksNothing : Type 2
  AsksNothing = (κs : Lfts S.lifetimes) (a : ArgsD S κs) (w : World) → requires κs a tt w ≡ emp w.𝓤

-- One with a type parameter asks what the language does of each such call, that the type outlives it, and nothing else; `of_call` is
-- the call's own lifetime among its lifetimes.
module _ (T : RattleType) (S : Signature) (requires : (κs : Lfts S.lifetimes) → ArgsD S κs → Unit {0} → (w : World) → Pr w) (of_call : Lfts S.lifetimes → Lft) where
  abbrev pub AsksLifeAlone : Type 2
  AsksLifeAlone = (κs : Lfts S.lifetimes) (a : ArgsD S κs) (w : World) → requires κs a tt w ≡ sep w.𝓤 (life w.𝓤 (of_call κs ⊑ T.lives)) (emp w.𝓤)

  -- One with a number for a parameter asks what the language does: that an array of so many octets fits the memory.
  module _ (octets : ℕ) where
    abbrev pub AsksRoomAlone : Type 2
    AsksRoomAlone =
        (κs : Lfts S.lifetimes) (a : ArgsD S κs) (w : World)
        → requires κs a tt w ≡ sep w.𝓤 (life w.𝓤 (of_call κs ⊑ T.lives)) (sep w.𝓤 (life w.𝓤 (octets * 1 < 2 ^ 63)) (emp w.𝓤))

-- The same of an `ensures` itself, in every model of the logic: whatever grants it of two answers grants that what is seen of them is
-- the same. It is cited of the functions that take or give a held reference.
module _ (T : Ended) (ensures : (κs : Lfts T.signature.lifetimes) → ArgsD T.signature κs → Unit {0} → ResD T.signature κs → AtExit T κs → (w : World) → Pr w) where
  module _ {A : Type 0} (see : (κs : Lfts T.signature.lifetimes) → ResD T.signature κs → AtExit T κs → A) where
    abbrev pub GrantsOne : Type 2
    GrantsOne =
        (κs : Lfts T.signature.lifetimes) (a : ArgsD T.signature κs) (z z' : ResD T.signature κs) (e e' : AtExit T κs) (w : World) (P : Pr w)
        → ent w.𝓤 P (ensures κs a tt z e w) → ent w.𝓤 P (ensures κs a tt z' e' w) → ent w.𝓤 P (fact w.𝓤 (see κs z e ≡ see κs z' e'))

-- The law that all of them cite: what equals the same is equal.
module _ {A : Type 0} where
  pub same : {x y c : A} → x ≡ c → y ≡ c → x ≡ y
  same e f = e ∙ sym f

  -- The same of facts that are granted, each of which tells it.
  module _ (w : World) {φ ψ : Type 0} {x y c : A} where
    pub granted : (P : Pr w) → ent w.𝓤 P (fact w.𝓤 φ) → ent w.𝓤 P (fact w.𝓤 ψ) → (φ → x ≡ c) → (ψ → y ≡ c) → ent w.𝓤 P (fact w.𝓤 (x ≡ y))
    granted P h h' tells tells' = fact_use w.𝓤 φ h (λ f. fact_use w.𝓤 ψ h' (λ g. fact_i w.𝓤 (x ≡ y) P (same (tells f) (tells' g))))
