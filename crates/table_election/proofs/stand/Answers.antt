use Rattle.table_election.proofs.Beaten.{stood}
use Rattle.table_election.proofs.stand.Goals as goal

pub returns : goal.returns
returns c =
    stood c.args.own c.args.t.now _ _ _ c.live_count-live.ensures c.is_beaten-theirs.ensures c.leads.ensures
