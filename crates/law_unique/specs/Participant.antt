-- The public functions of `participant`. Written by tools/unique.
use denote.RattleType.{RattleType}
use denote.Param.Laws.{Laws}
use Rattle.std.specs.Prelude.{refl}
use Rattle.participant.proofs as participant
use Rattle.participant.specs.contracts as contracts
use Rattle.law_unique.specs.Law.{AsksLifeAlone, AsksNothing, OneAnswer, same}

pub participant·call·accepted·asks-nothing : (T : RattleType) (L : Laws T) → AsksLifeAlone T (contracts.call.accepted.signature T) (participant.call.accepted.Reads.requires T L) (λ κs. κs.0)
participant·call·accepted·asks-nothing T L κs a w = refl

pub participant·call·accepted : (T : RattleType) (L : Laws T) → OneAnswer (participant.call.accepted.Kinds.ps T L) (participant.call.accepted.Kinds.r T L) (participant.call.accepted.Reads.Learnt T L)
participant·call·accepted T L κs a z z' e e' h h' = same h h'

pub participant·call·refused·asks-nothing : (T : RattleType) (L : Laws T) → AsksLifeAlone T (contracts.call.refused.signature T) (participant.call.refused.Reads.requires T L) (λ κs. κs.0)
participant·call·refused·asks-nothing T L κs a w = refl

pub participant·call·refused : (T : RattleType) (L : Laws T) → OneAnswer (participant.call.refused.Kinds.ps T L) (participant.call.refused.Kinds.r T L) (participant.call.refused.Reads.Learnt T L)
participant·call·refused T L κs a z z' e e' h h' = same h h'

pub participant·call·aged-to·asks-nothing : AsksNothing contracts.call.aged_to.signature participant.call.aged_to.Reads.requires
participant·call·aged-to·asks-nothing κs a w = refl

pub participant·call·aged-to : OneAnswer participant.call.aged_to.Kinds.ps participant.call.aged_to.Kinds.r participant.call.aged_to.Reads.Learnt
participant·call·aged-to κs a z z' e e' h h' = same h h'

pub participant·keys·empty·asks-nothing : AsksNothing contracts.keys.empty.signature participant.keys.empty.Reads.requires
participant·keys·empty·asks-nothing κs a w = refl

pub participant·keys·empty : OneAnswer participant.keys.empty.Kinds.ps participant.keys.empty.Kinds.r participant.keys.empty.Reads.Learnt
participant·keys·empty κs a z z' e e' h h' = same h h'

pub participant·keys·of-member·asks-nothing : AsksNothing contracts.keys.of_member.signature participant.keys.of_member.Reads.requires
participant·keys·of-member·asks-nothing κs a w = refl

pub participant·keys·of-member : OneAnswer participant.keys.of_member.Kinds.ps participant.keys.of_member.Kinds.r participant.keys.of_member.Reads.Learnt
participant·keys·of-member κs a z z' e e' h h' = same h h'

pub participant·keys·is-key·asks-nothing : AsksNothing contracts.keys.is_key.signature participant.keys.is_key.Reads.requires
participant·keys·is-key·asks-nothing κs a w = refl

pub participant·keys·is-key : OneAnswer participant.keys.is_key.Kinds.ps participant.keys.is_key.Kinds.r participant.keys.is_key.Reads.Learnt
participant·keys·is-key κs a z z' e e' h h' = same h h'

pub participant·keys·with-key·asks-nothing : AsksNothing contracts.keys.with_key.signature participant.keys.with_key.Reads.requires
participant·keys·with-key·asks-nothing κs a w = refl

pub participant·keys·with-key : OneAnswer participant.keys.with_key.Kinds.ps participant.keys.with_key.Kinds.r participant.keys.with_key.Reads.Learnt
participant·keys·with-key κs a z z' e e' h h' = same h h'
