-- Why a refused call can be left out: it leaves the participant, and the later calls go on from there.
use Rattle.std.proofs.Common.{ap, sym, ◌∙◌}
use Rattle.std.specs.Prelude.{◌∷◌}
use Rattle.participant.specs.declared.Participant.{Participant}
use Rattle.law_history.specs.Calls.{created, answer_of, played}
use Rattle.law_history.proofs.Splits.{from-append, after-refused}
use Rattle.law_history.specs.Refused.{LeftOut, AnswersSame}

pub left_out : LeftOut
left_out k earlier c refused later =
    let p = (created k).participant in
    from-append p later (c ∷ earlier) ∙ ap (λ (q : Participant). played q later) (after-refused k earlier c refused) ∙ sym (from-append p later earlier)

pub answers-same : AnswersSame
answers-same k earlier c refused later d = ap (λ (q : Participant). answer_of q d) (left_out k earlier c refused later)
