-- The peer rules by name.
use Prim.Native.Nat.{ℕ}
use mathlib.Core.Path.{◌≡◌}
use mathlib.Core.Bool.{true}
use mathlib.Core.List.{List}
use Rattle.base_mi.specs.declared.Mi.{Mi}
use Rattle.table.specs.declared.Peer.{Peer}
use Rattle.table.specs.declared.Table.{Table}
use Rattle.law_lists.specs.Lists.{every}
use Rattle.law_lists.proofs.Laws.{both, first-of, second-of}
use Rattle.table.specs.Table.{entries}
use Rattle.table_expiry.specs.Expiry.{fresh_peer}
use Rattle.table_expiry.specs.Kept.{unproven_zero, timely, fresh_proof, ordered, distinct, absent, has_number, peer_rules, Kept}

pub record PeerRules (own : Mi) (clock : ℕ) (l : List Peer) : Type 0 where
  pub zeros : every unproven_zero l ≡ true
  pub times : every (timely clock) l ≡ true
  pub ages : every (fresh_peer clock) l ≡ true
  pub proofs : every (fresh_proof clock) l ≡ true
  pub order : every ordered l ≡ true
  pub apart : distinct l ≡ true
  pub others : absent own l ≡ true
  pub numbers : every has_number l ≡ true

module _ (own : Mi) (clock : ℕ) (l : List Peer) where
  pub by_name : peer_rules own clock l ≡ true → PeerRules own clock l
  unfolding peer_rules
  by_name e =
      let r1 = second-of (every unproven_zero l) _ e in
      let r2 = second-of (every (timely clock) l) _ r1 in
      let r3 = second-of (every (fresh_peer clock) l) _ r2 in
      let r4 = second-of (every (fresh_proof clock) l) _ r3 in
      let r5 = second-of (every ordered l) _ r4 in
      let r6 = second-of (distinct l) _ r5 in
      record {
        zeros = first-of (every unproven_zero l) _ e;
        times = first-of (every (timely clock) l) _ r1;
        ages = first-of (every (fresh_peer clock) l) _ r2;
        proofs = first-of (every (fresh_proof clock) l) _ r3;
        order = first-of (every ordered l) _ r4;
        apart = first-of (distinct l) _ r5;
        others = first-of (absent own l) _ r6;
        numbers = second-of (absent own l) _ r6;
      }

  pub together : PeerRules own clock l → peer_rules own clock l ≡ true
  unfolding peer_rules
  together r =
      both _ _ r.zeros
      (both _ _ r.times
      (both _ _ r.ages
      (both _ _ r.proofs (both _ _ r.order (both _ _ r.apart (both _ _ r.others r.numbers))))))

-- of a table that is kept
pub kept-rules : {own : Mi} {clock : ℕ} {t : Table} → Kept own clock t → PeerRules own clock (entries t)
kept-rules {own} {clock} {t} k = by_name own clock (entries t) k.rules
