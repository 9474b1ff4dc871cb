use Rattle.std.proofs.Common.{◌+◌, ◌*◌, ℕ, rules, ◌∙◌, arith, tests}
use Rattle.std.proofs.lemmas.Iterator.{YieldsList-from_range}
use Rattle.std.proofs.lemmas.Iterator.Search.{all_from_yields_List}
use Rattle.image_peer.proofs.Laws.{clean_all}
use Rattle.image_peer.specs.Peer.{peer_clean}
use Rattle.image_peer.proofs.peers_clean.Goals as goal

pub returns : goal.returns
returns c =
    let a = c.args in
    all_from_yields_List (λ (k : ℕ). peer_clean a.s.now (a.at + k * 44)) _ _ _ c.all.ensures.ran (YieldsList-from_range 0 a.n a.n (cc) (omega arith)) (λ x b q k. search (rules, tests))
    ∙ clean_all a.s.now a.at a.n
