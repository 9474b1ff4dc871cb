-- The public functions of `base_facts`. Written by tools/unique.
use Rattle.std.specs.Prelude.{refl}
use Rattle.base_facts.proofs as base_facts
use Rattle.base_facts.specs.contracts as contracts
use Rattle.law_unique.specs.Law.{AsksNothing, OneAnswer, same}

pub base-facts·Refusal·number·asks-nothing : AsksNothing contracts.Refusal.number.signature base_facts.Refusal.number.Reads.requires
base-facts·Refusal·number·asks-nothing κs a w = refl

pub base-facts·Refusal·number : OneAnswer base_facts.Refusal.number.Kinds.ps base_facts.Refusal.number.Kinds.r base_facts.Refusal.number.Reads.Learnt
base-facts·Refusal·number κs a z z' e e' h h' = same h h'

pub base-facts·fail-if·asks-nothing : AsksNothing contracts.fail_if.signature base_facts.fail_if.Reads.requires
base-facts·fail-if·asks-nothing κs a w = refl

pub base-facts·fail-if : OneAnswer base_facts.fail_if.Kinds.ps base_facts.fail_if.Kinds.r base_facts.fail_if.Reads.Learnt
base-facts·fail-if κs a z z' e e' h h' = same h h'

pub base-facts·padded·asks-nothing : AsksNothing contracts.padded.signature base_facts.padded.Reads.requires
base-facts·padded·asks-nothing κs a w = refl

pub base-facts·padded : OneAnswer base_facts.padded.Kinds.ps base_facts.padded.Kinds.r base_facts.padded.Reads.Learnt
base-facts·padded κs a z z' e e' h h' = same h h'
