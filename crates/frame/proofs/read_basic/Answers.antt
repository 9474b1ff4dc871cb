use Rattle.std.proofs.Common.{sym, ◌∙◌, ◌≡◌, Err, rules}
use Rattle.frame.specs.Basic.{basic_of}
use Rattle.frame.proofs.Laws.{length-octets, told_refused}
use Rattle.frame.proofs.read_basic.Goals as goal

pub returns-in_err-wrong : goal.returns-in_err-wrong
unfolding basic_of
returns-in_err-wrong c =
    let s = c.args.frame.now in
    let l = length-octets s _ (sym c.body_length.ensures ∙ c.in-Some.is) in
    let e : c.from_residual.result ≡ Err c.in_err-wrong.field-0.0 = search rules in
    rw (e, l.0, l.1, ← c.basic_length-n.ensures) (sym (told_refused _ _ _ _ (sym c.in_err-wrong.ensures)))
