use native.Mathlib.Omega.{arith}
use Rattle.page.proofs.Laws.{decimal-le}
use mathlib.Core.List.{◌++◌}
use Prim.Native.Nat.{◌≤◌}
use lib.ListN.{length, length-append}
use Rattle.page.specs.Text.{ascii, decimal_of, line_room, refused_text}
use Rattle.page.proofs.Said.{said-append, line-said}
use Rattle.page.proofs.line.refused.Goals as goal

pub returns : goal.returns
unfolding refused_text
returns c =
    let n = c.args.number in
    let few : length (refused_text n) ≤ line_room = omega (arith, decimal-le n, length-append (ascii "refused " ++ decimal_of n) (ascii "\n")) in
    rw (line-said (refused_text n) few, said-append, said-append) cc
