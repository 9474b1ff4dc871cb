-- The public functions of `call_hearing`. Written by tools/unique.
use Rattle.std.specs.Prelude.{refl}
use Rattle.call_hearing.proofs as call_hearing
use Rattle.call_hearing.specs.contracts as contracts
use Rattle.law_unique.specs.Law.{AsksNothing, OneAnswer, OneSeen, same}

pub call-hearing·keys·take-sak·asks-nothing : AsksNothing contracts.keys.take_sak.signature call_hearing.keys.take_sak.Reads.requires
call-hearing·keys·take-sak·asks-nothing κs a w = refl

pub call-hearing·keys·take-sak : OneAnswer call_hearing.keys.take_sak.Kinds.ps call_hearing.keys.take_sak.Kinds.r call_hearing.keys.take_sak.Reads.Learnt
call-hearing·keys·take-sak κs a z z' e e' h h' = same h h'

pub call-hearing·keys·take-sak-into·asks-nothing : AsksNothing contracts.keys.take_sak_into.signature call_hearing.keys.take_sak_into.Reads.requires
call-hearing·keys·take-sak-into·asks-nothing κs a w = refl

pub call-hearing·keys·take-sak-into : OneAnswer call_hearing.keys.take_sak_into.Kinds.ps call_hearing.keys.take_sak_into.Kinds.r call_hearing.keys.take_sak_into.Reads.Learnt
call-hearing·keys·take-sak-into κs a z z' e e' h h' = same h.0 h'.0

pub call-hearing·keys·take-sak-into·left : OneSeen call_hearing.keys.take_sak_into.Kinds.ps call_hearing.keys.take_sak_into.Kinds.r call_hearing.keys.take_sak_into.Reads.Learnt (λ κs z e. e.0.now)
call-hearing·keys·take-sak-into·left κs a z z' e e' h h' = same h.1 h'.1

pub call-hearing·proof·recent·asks-nothing : AsksNothing contracts.proof.recent.signature call_hearing.proof.recent.Reads.requires
call-hearing·proof·recent·asks-nothing κs a w = refl

pub call-hearing·proof·recent : OneAnswer call_hearing.proof.recent.Kinds.ps call_hearing.proof.recent.Kinds.r call_hearing.proof.recent.Reads.Learnt
call-hearing·proof·recent κs a z z' e e' h h' = same h h'

pub call-hearing·proof·proves·asks-nothing : AsksNothing contracts.proof.proves.signature call_hearing.proof.proves.Reads.requires
call-hearing·proof·proves·asks-nothing κs a w = refl

pub call-hearing·proof·proves : OneAnswer call_hearing.proof.proves.Kinds.ps call_hearing.proof.proves.Kinds.r call_hearing.proof.proves.Reads.Learnt
call-hearing·proof·proves κs a z z' e e' h h' = same h h'
