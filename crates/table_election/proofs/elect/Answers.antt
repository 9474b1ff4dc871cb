use Rattle.std.proofs.Common.{ap, sym, ◌∙◌}
use Rattle.table_election.specs.Lead.{server_led}
use Rattle.table_election.proofs.Least.{elected-none, elected-led}
use Rattle.table_election.proofs.elect.Goals as goal

pub returns-then-none_live : goal.returns-then-none_live
returns-then-none_live c = sym (elected-none c.args.own c.args.t.now (sym c.none_live.ensures ∙ c.if-none_live.true))

pub returns : goal.returns
returns c =
    c.server_of.ensures ∙ ap server_led c.leader.ensures
    ∙ sym (elected-led c.args.own c.args.t.now (sym c.none_live.ensures ∙ c.if-none_live.false))
