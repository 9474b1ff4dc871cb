use mathlib.Core.Path.{sym}
use Rattle.base_octets.specs.Number.{be_of}
use Rattle.base_mi.specs.Mi.{mi_octets}
use Rattle.base_mi.specs.Entry.{entry_octets}
use Rattle.base_octets.proofs.Laws.{sets-out, sets_then}
use Rattle.base_mi.proofs.Laws.{length-mi}
use Rattle.base_mi.proofs.entry.put_entry.Goals as goal

pub returns-then-out-at : goal.returns-then-out-at
returns-then-out-at c = sym (sets-out c.args.out.now (entry_octets c.args.e) c.args.at c.if-out-at.true)

pub returns : goal.returns
unfolding entry_octets
returns c = cc (sets_then c.args.out.now c.args.at 12 (mi_octets c.args.e.mi) (be_of 4 c.args.e.mn) (length-mi c.args.e.mi))
