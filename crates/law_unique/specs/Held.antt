-- The public functions that take or give a held reference, by their own clauses as well: see `GrantsOne`.
use Rattle.std.specs.Prelude.{refl}
use contract.Lifetimes.{Lfts}
use denote.Triple.Clauses.{ClausesAt}
use borrow.Fn.World.{World, ArgsD}
use Rattle.frame_reader.specs.contracts as contracts
use Rattle.law_unique.specs.Law.{AsksNothing, GrantsOne, granted}

abbrev over_clauses : (κs : Lfts 1) → ArgsD contracts.over.signature κs → (w : World) → ClausesAt w.𝓤 contracts.over.ended κs
over_clauses κs a w = contracts.over.clauses w.𝓛 w.𝓜.mem w.𝓡.returns κs a

abbrev next_clauses : (κs : Lfts 2) → ArgsD contracts.next.signature κs → (w : World) → ClausesAt w.𝓤 contracts.next.ended κs
next_clauses κs a w = contracts.next.clauses w.𝓛 w.𝓜.mem w.𝓡.returns κs a

pub frame-reader·over·asks-nothing : AsksNothing contracts.over.signature (λ κs a g w. (over_clauses κs a w).requires g)
frame-reader·over·asks-nothing κs a w = refl

pub frame-reader·over : GrantsOne contracts.over.ended (λ κs a g z e w. (over_clauses κs a w).ensures g z e) (λ κs z e. z)
frame-reader·over κs a z z' e e' w P h h' = granted w P h h' (λ f. f) (λ f. f)

pub frame-reader·next·asks-nothing : AsksNothing contracts.next.signature (λ κs a g w. (next_clauses κs a w).requires g)
frame-reader·next·asks-nothing κs a w = refl

pub frame-reader·next : GrantsOne contracts.next.ended (λ κs a g z e w. (next_clauses κs a w).ensures g z e) (λ κs z e. z)
frame-reader·next κs a z z' e e' w P h h' = granted w P h h' (λ f. f.0) (λ f. f.0)

pub frame-reader·next·left : GrantsOne contracts.next.ended (λ κs a g z e w. (next_clauses κs a w).ensures g z e) (λ κs z e. e.0.now)
frame-reader·next·left κs a z z' e e' w P h h' = granted w P h h' (λ f. f.1) (λ f. f.1)
