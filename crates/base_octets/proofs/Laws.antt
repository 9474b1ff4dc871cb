-- Laws of big-endian numbers, over the width.
use Prim.Native.Nat.{ℕ, min, zero, suc, ◌+◌, ◌-◌, ◌*◌, ◌/◌, ◌%◌, ◌^◌, ◌≤◌, ◌<◌}
use mathlib.Core.Path.{◌≡◌, refl, ap, sym, ◌∙◌}
use mathlib.Core.Logic.{◌≢◌}
use mathlib.Core.List.{List, [], ◌∷◌, ◌++◌, append_assoc}
use native.Mathlib.Numerals.{add-one}
use native.Mathlib.Nat.{pow-suc, pow-succ', pow-le-pow_right, div-div-eq-div-mul}
use native.Mathlib.Omega.{arith}
use native.Mathlib.Nat.{add-zero, add_assoc}
use lib.ListN.{length, get_or, set, take, drop, replicate, length-append, length-drop, take-append-drop, get_or-eq_default, get_or-append}
use borrow.Rule.Slice.PartMut.{put_mid}
use Rattle.std.specs.Int.{byte_at, bytes_high_first}
use Rattle.std.proofs.Math.Seq.{length-sets, drop-drop}
use mathlib.Core.Path.{ap₂}
use lib.Seq.{sets, sets-eq, drop-cons, take-add, take-suc, set_out, set_comm, get_or-drop, get_or-append-add, get_or-append_seam, length-take-le}
use lib.Dec.{lit<}
use Rattle.base_octets.specs.Number.{be_at, be_of}
use Rattle.base_octets.specs.Octets.{Octets}

pub be_at-zero : (s : List ℕ) (at : ℕ) → be_at s at 0 ≡ 0
unfolding be_at
be_at-zero s at = refl

pub be_at-next : (s : List ℕ) (at n : ℕ) → be_at s at (n + 1) ≡ be_at s at n * 256 + get_or s (at + n) 0
unfolding be_at
be_at-next s at n = rw add-one

-- n octets make a number below 256 ^ n
pub be_at-lt : (s : List ℕ) (at n : ℕ) → Octets s → be_at s at n < 256 ^ n
unfolding be_at
be_at-lt s at zero h = omega arith
be_at-lt s at (suc n) h = rw pow-suc (omega (arith, be_at-lt s at n h, (h (at + n)).fits))

-- the same with a bound on the width
pub be_at-below : (s : List ℕ) (at n m : ℕ) → n ≤ m → Octets s → be_at s at n < 256 ^ m
be_at-below s at n m le h = omega (arith, be_at-lt s at n h, pow-le-pow_right {n = 256} (lit< tt) le)

-- one octet more still fits 64 bits: what a turn of a loop that reads a number asks
pub be-turn : (s : List ℕ) (at i n v : ℕ) → n ≤ 8 → i < n → v ≡ be_at s at i → Octets s → v * 256 + get_or s (at + i) 0 < 2 ^ 64
be-turn s at i n v le lt e h =
    let le' : i ≤ 7 = omega arith in
    omega (arith, be_at-below s at i 7 le' h, (h (at + i)).fits)

-- eight octets are two numbers of four
pub be_at-halves : (s : List ℕ) (at : ℕ) → be_at s at 8 ≡ be_at s at 4 * 4294967296 + be_at s (at + 4) 4
be_at-halves s at =
    let e : (k : ℕ) → get_or s (at + 4 + k) 0 ≡ get_or s (at + (4 + k)) 0 = λ k. ap (λ (j : ℕ). get_or s j 0) (add_assoc at 4 k) in
    omega (
      arith,
      be_at-next s at 4,
      be_at-next s at 5,
      be_at-next s at 6,
      be_at-next s at 7,
      be_at-zero s (at + 4),
      be_at-next s (at + 4) 0,
      be_at-next s (at + 4) 1,
      be_at-next s (at + 4) 2,
      be_at-next s (at + 4) 3,
      e 0,
      e 1,
      e 2,
      e 3,
    )

-- past the end the number is 0
pub be_at-out : (s : List ℕ) (at n : ℕ) → length s ≤ at → be_at s at n ≡ 0
unfolding be_at
be_at-out s at zero h = refl
be_at-out s at (suc n) h =
    let past : length s ≤ at + n = omega arith in
    omega (arith, be_at-out s at n h, get_or-eq_default s 0 past)

-- ---- written numbers

-- byte k + 1 of a number is byte k of its 256th part
byte_at-next : (k v : ℕ) → byte_at (suc k) v ≡ byte_at k (v / 256)
byte_at-next zero v = refl
byte_at-next (suc k) v = rw (div-div-eq-div-mul v 256 (256 ^ suc k), pow-succ' 256 (suc k))

byte-last : (n v : ℕ) → bytes_high_first (suc n) v ≡ bytes_high_first n (v / 256) ++ (v % 256 ∷ [])
byte-last zero v = refl
byte-last (suc n) v = ap₂ (λ (x : ℕ) (l : List ℕ). x ∷ l) (byte_at-next n v) (byte-last n v)

pub length-be_of : (n v : ℕ) → length (be_of n v) ≡ n
unfolding be_of
length-be_of zero v = refl
length-be_of (suc n) v = length-append (be_of n (v / 256)) (v % 256 ∷ []) ∙ omega (arith, length-be_of n (v / 256))

-- a run of stores past the end changes nothing
pub sets-out : (l vs : List ℕ) (i : ℕ) → length l ≤ i → sets l i vs ≡ l
sets-out l [] i h = refl
sets-out l (a ∷ vs) i h =
    let e : set l i a ≡ l = set_out l i a h in
    let h' : length l ≤ suc i = omega arith in
    ap (λ (k : List ℕ). sets k (suc i) vs) e ∙ sets-out l vs (suc i) h'

-- nor does one of nothing
sets-over : (l vs : List ℕ) (i : ℕ) → (0 < length vs → length l ≤ i) → sets l i vs ≡ l
sets-over l [] i h = refl
sets-over l (x ∷ vs) i h = sets-out l (x ∷ vs) i (h (omega arith))

-- storing what stands there changes nothing
pub sets_same : (l : List ℕ) (at n : ℕ) → at + n ≤ length l → sets l at (take n (drop at l)) ≡ l
sets_same l at n fit =
    let len : length (take n (drop at l)) ≡ n = length-take-le n (drop at l) (simp length-drop (omega arith)) in
    let fit' : at + length (take n (drop at l)) ≤ length l = omega arith in
    sets-eq (take n (drop at l)) l at fit' ∙ rw (len, ← take-add at n l) (take-append-drop (at + n) l)

-- two runs of stores, one after the other
pub sets-append : (l : List ℕ) (i : ℕ) (a b : List ℕ) → sets l i (a ++ b) ≡ sets (sets l i a) (i + length a) b
sets-append l i [] b = ap (λ (k : ℕ). sets l k b) (sym (add-zero i))
sets-append l i (x ∷ a) b =
    let e : suc i + length a ≡ i + suc (length a) = omega arith in
    sets-append (set l i x) (suc i) a b ∙ ap (λ (k : ℕ). sets (sets (set l i x) (suc i) a) k b) e

-- a store past a run of stores may be made first
pub sets-set : (l : List ℕ) (i : ℕ) (vs : List ℕ) (j x : ℕ) → i + length vs ≤ j → set (sets l i vs) j x ≡ sets (set l j x) i vs
sets-set l i [] j x h = refl
sets-set l i (a ∷ vs) j x h =
    let h' : suc i + length vs ≤ j = omega arith in
    let ne : i ≢ j = omega arith in
    sets-set (set l i a) (suc i) vs j x h' ∙ ap (λ (k : List ℕ). sets k (suc i) vs) (set_comm l i j a x ne)

-- a part of a slice, written at once
pub sets-part : (l xs ys : List ℕ) (at k : ℕ) → at + k ≤ length l → xs ≡ ys → length ys ≡ k → put_mid at k l xs ≡ sets l at ys
sets-part l xs ys at k fit e n =
    let fit' : at + length ys ≤ length l = omega arith in
    rw (e, drop-drop k at l, ← n) (sym (sets-eq ys l at fit' ∙ append_assoc (take at l) ys (drop (at + length ys) l)))

-- the same of what the slice has room for
pub sets_short : (l xs ys : List ℕ) (at k n : ℕ) → at ≤ length l → k ≡ n → n ≡ min (length ys) (length l - at) → xs ≡ take n ys → put_mid at k l xs ≡ sets l at ys
sets_short l xs ys at k n le ek en e =
    let len : length (take n ys) ≡ k = length-take-le n ys (omega arith) ∙ sym ek in
    let past : 0 < length (drop n ys) → length (sets l at (take n ys)) ≤ at + length (take n ys) = λ h. omega (arith, length-drop n ys, length-sets l at (take n ys)) in
    sets-part l xs (take n ys) at k (omega arith) e len
    ∙ sym (ap (sets l at) (sym (take-append-drop n ys)) ∙ sets-append l at (take n ys) (drop n ys) ∙ sets-over (sets l at (take n ys)) (drop n ys) (at + length (take n ys)) past)

-- the octets of a number are its bytes as the language has them, the highest first
pub be_of-bytes : (n v : ℕ) → bytes_high_first n v ≡ be_of n v
unfolding be_of
be_of-bytes zero v = refl
be_of-bytes (suc n) v = byte-last n v ∙ ap (λ (l : List ℕ). l ++ (v % 256 ∷ [])) (be_of-bytes n (v / 256))

-- ---- write, then read

-- a number read within the first part of a list
pub be_at-left : (p q : List ℕ) (at n : ℕ) → at + n ≤ length p → be_at (p ++ q) at n ≡ be_at p at n
unfolding be_at
be_at-left p q at zero h = refl
be_at-left p q at (suc n) h =
    let h' : at + n ≤ length p = omega arith in
    let h'' : at + n < length p = omega arith in
    omega (arith, be_at-left p q at n h', get_or-append p q 0 (at + n) h'')

-- and one within the second part
pub be_at-right : (p q : List ℕ) (at n : ℕ) → be_at (p ++ q) (length p + at) n ≡ be_at q at n
unfolding be_at
be_at-right p q at zero = refl
be_at-right p q at (suc n) =
    omega (arith, be_at-right p q at n, ap (λ (k : ℕ). get_or (p ++ q) k 0) (add_assoc (length p) at n), get_or-append-add p q (at + n) 0)

-- n octets of v, read, are v's lowest n octets
pub be-round : (n v : ℕ) → v < 256 ^ n → be_at (be_of n v) 0 n ≡ v
unfolding be_at be_of
be-round zero v h = omega arith
be-round (suc n) v h =
    let lt : v / 256 < 256 ^ n = omega (arith, rw pow-suc at h) in
    let len = length-be_of n (v / 256) in
    let fit : 0 + n ≤ length (be_of n (v / 256)) = omega arith in
    let z : 0 + n ≡ length (be_of n (v / 256)) = omega arith in
    omega (
      arith,
      be_at-left (be_of n (v / 256)) (v % 256 ∷ []) 0 n fit,
      be-round n (v / 256) lt,
      ap (λ (k : ℕ). get_or (be_of n (v / 256) ++ (v % 256 ∷ [])) k 0) z,
      get_or-append_seam (be_of n (v / 256)) (v % 256) [] 0,
    )

-- a number written into a list, read there again
pub be-written : (p q : List ℕ) (n v : ℕ) → v < 256 ^ n → be_at (p ++ (be_of n v ++ q)) (length p) n ≡ v
be-written p q n v h =
    let len = length-be_of n v in
    let fit : 0 + n ≤ length (be_of n v) = omega arith in
    ap (λ (k : ℕ). be_at (p ++ (be_of n v ++ q)) k n) (sym (add-zero (length p)))
    ∙ be_at-right p (be_of n v ++ q) 0 n
    ∙ be_at-left (be_of n v) q 0 n fit
    ∙ be-round n v h

pub be-sets : (l : List ℕ) (at n v : ℕ) → v < 256 ^ n → at + n ≤ length l → be_at (sets l at (be_of n v)) at n ≡ v
be-sets l at n v h fit =
    let len = length-be_of n v in
    let fit' : at + length (be_of n v) ≤ length l = omega arith in
    let la : length (take at l) ≡ at = length-take-le at l (omega arith) in
    ap (λ (k : List ℕ). be_at k at n) (sets-eq (be_of n v) l at fit' ∙ append_assoc (take at l) (be_of n v) (drop (at + length (be_of n v)) l))
    ∙ ap (λ (k : ℕ). be_at (take at l ++ (be_of n v ++ drop (at + length (be_of n v)) l)) k n) (sym la)
    ∙ be-written (take at l) (drop (at + length (be_of n v)) l) n v h

-- two runs of stores, the second right after the first, n octets on
pub sets_then : (l : List ℕ) (at n : ℕ) (a b : List ℕ) → length a ≡ n → sets l at (a ++ b) ≡ sets (sets l at a) (at + n) b
sets_then l at n a b e = sets-append l at a b ∙ ap (λ (k : ℕ). sets (sets l at a) (at + k) b) e

-- ---- read, then write

-- the octets of a number that was read are the octets that stood there
pub be-back : (s : List ℕ) (at n : ℕ) → Octets s → at + n ≤ length s → be_of n (be_at s at n) ≡ take n (drop at s)
unfolding be_at be_of
be-back s at zero h fit = refl
be-back s at (suc n) h fit =
    let x = get_or s (at + n) 0 in
    let lt : x < 256 = (h (at + n)).fits in
    let q : (be_at s at n * 256 + x) / 256 ≡ be_at s at n = omega arith in
    let r : (be_at s at n * 256 + x) % 256 ≡ x = omega arith in
    let fit' : at + n ≤ length s = omega arith in
    let more : n < length (drop at s) = simp length-drop (omega arith) in
    rw (q, r, be-back s at n h fit', take-suc (drop at s) n 0 more, get_or-drop)

-- and writing them there again changes nothing
pub be-rewritten : (s : List ℕ) (at n : ℕ) → Octets s → at + n ≤ length s → sets s at (be_of n (be_at s at n)) ≡ s
be-rewritten s at n h fit = rw (be-back s at n h fit) (sets_same s at n fit)
