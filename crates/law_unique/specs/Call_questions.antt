-- The public functions of `call_questions`. Written by tools/unique.
use Rattle.std.specs.Prelude.{refl}
use Rattle.call_questions.proofs as call_questions
use Rattle.call_questions.specs.contracts as contracts
use Rattle.law_unique.specs.Law.{AsksNothing, OneAnswer, same}

pub call-questions·server·asks-nothing : AsksNothing contracts.server.signature call_questions.server.Reads.requires
call-questions·server·asks-nothing κs a w = refl

pub call-questions·server : OneAnswer call_questions.server.Kinds.ps call_questions.server.Kinds.r call_questions.server.Reads.Learnt
call-questions·server κs a z z' e e' h h' = same h h'

pub call-questions·elected-self·asks-nothing : AsksNothing contracts.elected_self.signature call_questions.elected_self.Reads.requires
call-questions·elected-self·asks-nothing κs a w = refl

pub call-questions·elected-self : OneAnswer call_questions.elected_self.Kinds.ps call_questions.elected_self.Kinds.r call_questions.elected_self.Reads.Learnt
call-questions·elected-self κs a z z' e e' h h' = same h h'

pub call-questions·fresh-due·asks-nothing : AsksNothing contracts.fresh_due.signature call_questions.fresh_due.Reads.requires
call-questions·fresh-due·asks-nothing κs a w = refl

pub call-questions·fresh-due : OneAnswer call_questions.fresh_due.Kinds.ps call_questions.fresh_due.Kinds.r call_questions.fresh_due.Reads.Learnt
call-questions·fresh-due κs a z z' e e' h h' = same h h'

pub call-questions·hello-due·asks-nothing : AsksNothing contracts.hello_due.signature call_questions.hello_due.Reads.requires
call-questions·hello-due·asks-nothing κs a w = refl

pub call-questions·hello-due : OneAnswer call_questions.hello_due.Kinds.ps call_questions.hello_due.Kinds.r call_questions.hello_due.Reads.Learnt
call-questions·hello-due κs a z z' e e' h h' = same h h'

pub call-questions·is-live·asks-nothing : AsksNothing contracts.is_live.signature call_questions.is_live.Reads.requires
call-questions·is-live·asks-nothing κs a w = refl

pub call-questions·is-live : OneAnswer call_questions.is_live.Kinds.ps call_questions.is_live.Kinds.r call_questions.is_live.Reads.Learnt
call-questions·is-live κs a z z' e e' h h' = same h h'

pub call-questions·is-potential·asks-nothing : AsksNothing contracts.is_potential.signature call_questions.is_potential.Reads.requires
call-questions·is-potential·asks-nothing κs a w = refl

pub call-questions·is-potential : OneAnswer call_questions.is_potential.Kinds.ps call_questions.is_potential.Kinds.r call_questions.is_potential.Reads.Learnt
call-questions·is-potential κs a z z' e e' h h' = same h h'

pub call-questions·live-count·asks-nothing : AsksNothing contracts.live_count.signature call_questions.live_count.Reads.requires
call-questions·live-count·asks-nothing κs a w = refl

pub call-questions·live-count : OneAnswer call_questions.live_count.Kinds.ps call_questions.live_count.Kinds.r call_questions.live_count.Reads.Learnt
call-questions·live-count κs a z z' e e' h h' = same h h'

pub call-questions·potential-count·asks-nothing : AsksNothing contracts.potential_count.signature call_questions.potential_count.Reads.requires
call-questions·potential-count·asks-nothing κs a w = refl

pub call-questions·potential-count : OneAnswer call_questions.potential_count.Kinds.ps call_questions.potential_count.Kinds.r call_questions.potential_count.Reads.Learnt
call-questions·potential-count κs a z z' e e' h h' = same h h'
