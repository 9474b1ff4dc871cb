use Rattle.std.proofs.Common.{◌≡◌, ap, ◌∙◌}
use Rattle.call_hearing.specs.Keys.{Keyed, keyed_of, taken_of}
use Rattle.call_hearing.proofs.Taken.{keyed_with, keyed-taken}
use Rattle.call_hearing.proofs.keys.take_sak_into.Goals as goal
use Rattle.call_hearing.proofs.keys.take_sak_into.Goals.{After-take_sak-taken}

-- what was taken makes of the participant what `keyed_of` says
taken : (c : After-take_sak-taken) → let a = c.args in keyed_with a.p.now c.take_sak-taken.result ≡ keyed_of a.p.now a.frame.now a.m a.sak
taken c =
    let a = c.args in
    ap (keyed_with a.p.now) (c.take_sak-taken.ensures ∙ (λ i. taken_of (c.server.ensures i) a.p.now.latest a.p.now.old a.frame.now a.m a.sak))
    ∙ keyed-taken a.p.now a.frame.now a.m a.sak

pub returns : goal.returns
returns c =
    let k = taken (goal.at.returns c).After-take_sak-taken in
    (ap (λ (k : Keyed). k.wrapped) k, ap (λ (k : Keyed). k.participant) k)
