-- The length of a peer's record, its flags as a sum, and what a loop over the records does.
use Prim.Native.Nat.{ℕ, zero, suc, ◌+◌, ◌*◌, ◌%◌, ◌≤◌, ◌<◌}
use mathlib.Core.Path.{◌≡◌, refl, ap, sym, ◌∙◌}
use mathlib.Core.List.{List, [], ◌∷◌, ◌++◌}
use mathlib.Core.Bool.{Bool}
use mir.Val.{bool_byte}
use native.Mathlib.Omega.{arith}
use native.Mathlib.Numerals.{add-one}
use native.Mathlib.Nat.{add-zero}
use lib.Seq.{sets, drop-cons}
use Rattle.base_octets.specs.Run.{runs_of}
use lib.Bits.{bit_and, bit_or, and_mask}
use lib.ListN.{length, get_or, set, drop, length-append, drop_of_length-le}
use Rattle.base_octets.proofs.Laws.{length-be_of, sets_then}
use Rattle.base_mi.proofs.Laws.{length-mi}
use Rattle.base_packed.specs.Bit.{bit}
use Rattle.base_packed.proofs.Laws.{or-low, byte-bit, bit-lt}
use Rattle.std.specs.List.{list_all, range_with_len}
use Rattle.law_lists.specs.Lists.{pad}
use Rattle.table.specs.Table.{blank_peer}
use Rattle.table.specs.declared.Peer.{Peer}
use Rattle.law_lists.proofs.Laws.{pad-snoc}
use Rattle.image_peer.specs.Peer.{peer_octets, peers_octets, peer_at, peer_clean, peers_at, peers_clean}

pub length-peer : (p : Peer) → length (peer_octets p) ≡ 44
unfolding peer_octets
length-peer p = simp (length-append, length-be_of, length-mi)

-- ---- flags

pub peer-sum : (c d s p : ℕ) → d < 2 → s < 2 → p < 2
    → bit_or (bit_or (bit_or (bit_and c 3 * 16 % 256) (d * 4 % 256)) (s * 2 % 256)) p ≡ c % 4 * 16 + d * 4 + s * 2 + p
peer-sum c d s p hd hs hp =
    let e1 : bit_and c 3 * 16 % 256 ≡ c % 4 * 16 = omega (arith, and_mask c 2) in
    let e2 : d * 4 % 256 ≡ d * 4 = omega arith in
    let e3 : s * 2 % 256 ≡ s * 2 = omega arith in
    let o1 : bit_or (c % 4 * 16) (d * 4) ≡ c % 4 * 16 + d * 4 = or-low 4 (c % 4) (d * 4) (c % 4 * 16) refl (omega arith) in
    let o2 : bit_or (c % 4 * 16 + d * 4) (s * 2) ≡ c % 4 * 16 + d * 4 + s * 2 = or-low 2 (c % 4 * 4 + d) (s * 2) (c % 4 * 16 + d * 4) (omega arith) (omega arith) in
    let o3 : bit_or (c % 4 * 16 + d * 4 + s * 2) p ≡ c % 4 * 16 + d * 4 + s * 2 + p = or-low 1 (c % 4 * 8 + d * 2 + s) p (c % 4 * 16 + d * 4 + s * 2) (omega arith) (omega arith) in
    cc

-- the same of flags
pub peer_sum : (c : ℕ) (d s p : Bool)
    → bit_or (bit_or (bit_or (bit_and c 3 * 16 % 256) (bool_byte d * 4 % 256)) (bool_byte s * 2 % 256)) (bool_byte p) ≡ c % 4 * 16 + bit d * 4 + bit s * 2 + bit p
peer_sum c d s p = simp byte-bit (peer-sum c (bit d) (bit s) (bit p) (bit-lt d) (bit-lt s) (bit-lt p))

-- ---- peers' records, one after the other

pub length_peers_at : (s : List ℕ) (at n : ℕ) → length (peers_at s at n) ≡ n
unfolding peers_at
length_peers_at s at zero = refl
length_peers_at s at (suc n) = ap suc (length_peers_at s (at + 44) n)

-- one more of them
peers_at-snoc : (s : List ℕ) (at n : ℕ) → peers_at s at (suc n) ≡ peers_at s at n ++ (peer_at s (at + n * 44) ∷ [])
unfolding peers_at
peers_at-snoc s at zero = let e : at + 0 * 44 ≡ at = omega arith in rw e
peers_at-snoc s at (suc n) =
    let e : at + 44 + n * 44 ≡ at + suc n * 44 = omega arith in
    ap (λ (l : List Peer). peer_at s at ∷ l) (peers_at-snoc s (at + 44) n ∙ ap (λ (k : ℕ). peers_at s (at + 44) n ++ (peer_at s k ∷ [])) e)

-- one turn of the loop that reads them
pub peers_at_step : (s : List ℕ) (at i : ℕ) → i < 16 → set (pad 16 blank_peer (peers_at s at i)) i (peer_at s (at + i * 44)) ≡ pad 16 blank_peer (peers_at s at (i + 1))
peers_at_step s at i h =
    let n = length_peers_at s at i in
    let lt : length (peers_at s at i) < 16 = omega arith in
    ap (λ (k : ℕ). set (pad 16 blank_peer (peers_at s at i)) k (peer_at s (at + i * 44))) (sym n)
    ∙ pad-snoc 16 blank_peer (peers_at s at i) (peer_at s (at + i * 44)) lt
    ∙ ap (pad 16 blank_peer) (sym (peers_at-snoc s at i) ∙ ap (peers_at s at) (sym (add-one i)))

-- the records that are judged, the first being number i, and all of them
clean_from : (s : List ℕ) (at i n : ℕ) → list_all (λ (k : ℕ). peer_clean s (at + k * 44)) (range_with_len i n) ≡ peers_clean s (at + i * 44) n
unfolding peers_clean
clean_from s at i zero = refl
clean_from s at i (suc n) =
    let e : at + i * 44 + 44 ≡ at + (i + 1) * 44 = omega arith in
    rw (e, ← clean_from s at (i + 1) n)

pub clean_all : (s : List ℕ) (at n : ℕ) → list_all (λ (k : ℕ). peer_clean s (at + k * 44)) (range_with_len 0 n) ≡ peers_clean s at n
clean_all s at n = clean_from s at 0 n ∙ ap (λ (k : ℕ). peers_clean s k n) (add-zero at)

-- the first of the records that are left is stored
pub peer_stored : (out : List ℕ) (at i : ℕ) (l : List Peer) (d : Peer) → i < length l
    → sets (sets out (at + i * 44) (peer_octets (get_or l i d))) (at + (i + 1) * 44) (peers_octets (drop (i + 1) l)) ≡ sets out (at + i * 44) (peers_octets (drop i l))
unfolding peers_octets
peer_stored out at i l d h =
    let e : at + i * 44 + 44 ≡ at + (i + 1) * 44 = omega arith in
    rw (drop-cons l i d h, sets_then out (at + i * 44) 44 _ (runs_of peer_octets (drop (suc i) l)) (length-peer (get_or l i d)), e, add-one)

pub peers_stored : (out : List ℕ) (at i : ℕ) (l : List Peer) → length l ≤ i → sets out at (peers_octets (drop i l)) ≡ out
unfolding peers_octets
peers_stored out at i l h = rw (drop_of_length-le l h)
