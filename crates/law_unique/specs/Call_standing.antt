-- The public functions of `call_standing`. Written by tools/unique.
use Rattle.std.specs.Prelude.{refl}
use Rattle.call_standing.proofs as call_standing
use Rattle.call_standing.specs.contracts as contracts
use Rattle.law_unique.specs.Law.{AsksNothing, OneAnswer, same}

pub call-standing·own-rank·asks-nothing : AsksNothing contracts.own_rank.signature call_standing.own_rank.Reads.requires
call-standing·own-rank·asks-nothing κs a w = refl

pub call-standing·own-rank : OneAnswer call_standing.own_rank.Kinds.ps call_standing.own_rank.Kinds.r call_standing.own_rank.Reads.Learnt
call-standing·own-rank κs a z z' e e' h h' = same h h'

pub call-standing·server·asks-nothing : AsksNothing contracts.server.signature call_standing.server.Reads.requires
call-standing·server·asks-nothing κs a w = refl

pub call-standing·server : OneAnswer call_standing.server.Kinds.ps call_standing.server.Kinds.r call_standing.server.Reads.Learnt
call-standing·server κs a z z' e e' h h' = same h h'

pub call-standing·elected-self·asks-nothing : AsksNothing contracts.elected_self.signature call_standing.elected_self.Reads.requires
call-standing·elected-self·asks-nothing κs a w = refl

pub call-standing·elected-self : OneAnswer call_standing.elected_self.Kinds.ps call_standing.elected_self.Kinds.r call_standing.elected_self.Reads.Learnt
call-standing·elected-self κs a z z' e e' h h' = same h h'

pub call-standing·fresh-due·asks-nothing : AsksNothing contracts.fresh_due.signature call_standing.fresh_due.Reads.requires
call-standing·fresh-due·asks-nothing κs a w = refl

pub call-standing·fresh-due : OneAnswer call_standing.fresh_due.Kinds.ps call_standing.fresh_due.Kinds.r call_standing.fresh_due.Reads.Learnt
call-standing·fresh-due κs a z z' e e' h h' = same h h'
