-- The rules record by record are the rules phrase by phrase.
use Rattle.std.specs.Prelude.{ℕ, ◌≡◌, refl, Bool, true, false, cond, not, ◌&&◌, List, [], ◌∷◌, eqb, leb, ltb}
use Rattle.std.proofs.Common.{ap, ap₂, sym, ◌∙◌, arith, leb-true, le-leb, eqb-true}
use Rattle.base_mi.specs.declared.Mi.{Mi}
use Rattle.base_mi.specs.Mi.{mi_same}
use Rattle.table.specs.declared.Peer.{Peer}
use Rattle.law_lists.specs.Lists.{every}
use Rattle.table.specs.Table.{entries}
use Rattle.table_expiry.specs.Expiry.{fresh_peer}
use Rattle.table_expiry.specs.Kept.{only, unproven_zero, timely, fresh_proof, ordered, distinct, absent, has_number, peer_rules}
use Rattle.participant.specs.declared.Participant.{Participant}
use Rattle.image_rules.specs.Rules.{in_ranges, two_bits, every_key, under_four, use_good, unused_zero, own_timely, keys_distinct, key_numbered, within_ours, rules}
use Rattle.image_rules.specs.Records.{own_good, proof_good, times_good, peer_good, peers_good, key_good, slot_good, keys_good}

-- ---- tests in another order

and_comm : (a b : Bool) → (a && b) ≡ (b && a)
and_comm true true = refl
and_comm true false = refl
and_comm false true = refl
and_comm false false = refl

and_assoc : (a b c : Bool) → ((a && b) && c) ≡ (a && (b && c))
and_assoc true b c = refl
and_assoc false b c = refl

and-swap : (a b c : Bool) → (a && (b && c)) ≡ (b && (a && c))
and-swap true b c = refl
and-swap false true c = refl
and-swap false false c = refl

only-and : (h a b : Bool) → only h (a && b) ≡ (only h a && only h b)
only-and true a b = refl
only-and false a b = refl

-- ---- the peers

-- a test that two others imply may be left out
implied : (v a b o z : Bool) → (a ≡ true → o ≡ true → b ≡ true) → (z ≡ true → b ≡ true)
    → (a && cond v o z) ≡ (only (not v) z && ((a && b) && only v o))
implied true true b true z h k = sym (rw (h refl refl))
implied true true b false z h k = sym (and_comm b false)
implied true false b o z h k = refl
implied false true b o true h k = rw (k refl)
implied false false b o true h k = refl
implied false a b o false h k = and_comm a false

proof-times : (clock : ℕ) (q : Peer) → (leb q.accepted clock && proof_good q) ≡ (unproven_zero q && (timely clock q && ordered q))
proof-times clock q =
    implied q.proven (leb q.accepted clock) (leb q.proof clock) (leb q.proof q.accepted) (eqb q.proof 0)
    (λ a o. le-leb q.proof clock (omega (arith, leb-true q.accepted clock a, leb-true q.proof q.accepted o)))
    (λ z. le-leb q.proof clock (omega (arith, eqb-true q.proof 0 z)))

-- one entry's tests, then those of the entries behind it
shuffle : (w a f g p u t o n m x W U T F G O D M N : Bool) → (a && p) ≡ (u && (t && o))
    → ((w && ((a && (f && (g && p))) && (n && m))) && (x && (W && (U && (T && (F && (G && (O && (D && (M && N))))))))))
    ≡ ((w && W) && ((u && U) && ((t && T) && ((f && F) && ((g && G) && ((o && O) && ((x && D) && ((m && M) && (n && N)))))))))
shuffle w a f g p u t o n m x W U T F G O D M N e =
    let s : (a && (f && (g && p))) ≡ (u && (t && (f && (g && o)))) = simp and-swap (simp and-swap at (ap (λ (y : Bool). f && (g && y)) e)) in
    rw s (simp (and_comm, and_assoc, and-swap))

pub peers-by-rule : (own : Mi) (clock : ℕ) (l : List Peer) → peers_good own clock l ≡ (every two_bits l && peer_rules own clock l)
unfolding peers_good peer_good times_good peer_rules
peers-by-rule own clock [] = refl
peers-by-rule own clock (q ∷ l) =
    ap (λ (y : Bool). peer_good own clock q && (absent q.mi l && y)) (peers-by-rule own clock l)
    ∙ shuffle (two_bits q) (leb q.accepted clock) (fresh_peer clock q) (fresh_proof clock q) (proof_good q) (unproven_zero q) (timely clock q) (ordered q)
    (has_number q) (not (mi_same own q.mi)) (absent q.mi l) (every two_bits l) (every unproven_zero l) (every (timely clock) l) (every (fresh_peer clock) l)
    (every (fresh_proof clock) l) (every ordered l) (distinct l) (absent own l) (every has_number l) (proof-times clock q)

-- ---- the keys

slots : (h h' x y u n a x' y' u' n' a' d : Bool)
    → (only h (x && (y && (u && (n && a)))) && (only h' (x' && (y' && (u' && (n' && a')))) && d))
    ≡ ((only h (x && y) && only h' (x' && y')) && ((only h u && only h' u') && (d && ((only h n && only h' n') && (only h a && only h' a')))))
slots h h' x y u n a x' y' u' n' a' d = simp (only-and, and_comm, and_assoc, and-swap)

pub keys-by-rule : (p : Participant) → keys_good p
    ≡ (every_key under_four p && (every_key use_good p && (keys_distinct p && (every_key key_numbered p && every_key (within_ours p.mi p.kn) p))))
unfolding keys_good slot_good key_good
keys-by-rule p =
    let k = p.latest.key in
    let o = p.old.key in
    slots p.latest.held p.old.held
    (ltb k.an 4) (ltb k.confidentiality 4) (use_good k) (key_numbered k) (within_ours p.mi p.kn k)
    (ltb o.an 4) (ltb o.confidentiality 4) (use_good o) (key_numbered o) (within_ours p.mi p.kn o)
    (keys_distinct p)

-- ---- all of it

whole : (s u t w r x y d n a : Bool)
    → ((s && (u && t)) && ((w && r) && (x && (y && (d && (n && a)))))) ≡ (s && (w && (x && (y && (u && (t && (r && (d && (n && a)))))))))
whole s u t w r x y d n a = simp (and_assoc, and-swap)

pub by_record : (p : Participant) → rules p ≡ (own_good p && (peers_good p.mi p.clock (entries p.table) && keys_good p))
unfolding rules own_good
by_record p =
    let l = entries p.table in
    sym
    (ap₂ (λ (x y : Bool). own_good p && (x && y)) (peers-by-rule p.mi p.clock l) (keys-by-rule p)
    ∙ whole (in_ranges p) (unused_zero p) (own_timely p) (every two_bits l) (peer_rules p.mi p.clock l) (every_key under_four p) (every_key use_good p)
    (keys_distinct p) (every_key key_numbered p) (every_key (within_ours p.mi p.kn) p))
