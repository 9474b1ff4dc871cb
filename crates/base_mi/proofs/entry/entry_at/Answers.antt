use Rattle.base_mi.proofs.Laws.{mi-cut, be-cut}
use Rattle.base_mi.specs.Entry.{entry_at}
use Rattle.base_mi.specs.Mi.{mi_at}
use Rattle.base_octets.specs.Number.{be_at}
use lib.Dec.{lit≤}
use mathlib.Core.List.{List}
use mathlib.Core.Path.{ap, ◌∙◌}
use Prim.Native.Nat.{ℕ}
use Rattle.base_mi.proofs.entry.entry_at.Goals as goal

pub returns : goal.returns
unfolding entry_at
returns c = let s = c.args.s.now in
    let at = c.args.at in
    let mi = c.mi_at.ensures ∙ ap (λ (k : List ℕ). mi_at k 0) c.copied-e.ensures ∙ mi-cut s at in
    let mn = c.u32_at.ensures ∙ ap (λ (k : List ℕ). be_at k 12 4) c.copied-e.ensures ∙ be-cut s at 16 12 4 (lit≤ tt) in
    λ i. record { mi = mi i; mn = mn i }
