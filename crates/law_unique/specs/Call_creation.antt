-- The public functions of `call_creation`. Written by tools/unique.
use Rattle.std.specs.Prelude.{refl}
use Rattle.call_creation.proofs as call_creation
use Rattle.call_creation.specs.contracts as contracts
use Rattle.law_unique.specs.Law.{AsksNothing, OneAnswer, same}

pub call-creation·blank·asks-nothing : AsksNothing contracts.blank.signature call_creation.blank.Reads.requires
call-creation·blank·asks-nothing κs a w = refl

pub call-creation·blank : OneAnswer call_creation.blank.Kinds.ps call_creation.blank.Kinds.r call_creation.blank.Reads.Learnt
call-creation·blank κs a z z' e e' h h' = same h h'

pub call-creation·bad-start·asks-nothing : AsksNothing contracts.bad_start.signature call_creation.bad_start.Reads.requires
call-creation·bad-start·asks-nothing κs a w = refl

pub call-creation·bad-start : OneAnswer call_creation.bad_start.Kinds.ps call_creation.bad_start.Kinds.r call_creation.bad_start.Reads.Learnt
call-creation·bad-start κs a z z' e e' h h' = same h h'

pub call-creation·create·asks-nothing : AsksNothing contracts.create.signature call_creation.create.Reads.requires
call-creation·create·asks-nothing κs a w = refl

pub call-creation·create : OneAnswer call_creation.create.Kinds.ps call_creation.create.Kinds.r call_creation.create.Reads.Learnt
call-creation·create κs a z z' e e' h h' = same h h'
