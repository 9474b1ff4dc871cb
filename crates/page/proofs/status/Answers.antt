use native.Mathlib.Omega.{arith}
use Rattle.page.specs.Status.{status_text}
use Rattle.page.proofs.Said.{said-append, line-said}
use Rattle.page.proofs.Room.{status-le}
use Rattle.page.proofs.status.Goals as goal

pub returns : goal.returns
unfolding status_text
returns c =
    let p = c.args.p in
    let n = status-le p (omega arith) (omega arith) in
    rw (line-said (status_text p) (omega arith)) (simp said-append cc)
