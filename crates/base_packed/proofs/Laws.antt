-- Shifts and masks as arithmetic, and that packing and taking apart undo one another.
use Prim.Native.Nat.{ℕ, ◌+◌, ◌*◌, ◌/◌, ◌%◌, ◌^◌, ◌<◌}
use mathlib.Core.Path.{◌≡◌, refl, ap, ap₂, sym, ◌∙◌}
use mathlib.Core.Bool.{Bool, true, false}
use mir.Val.{bool_byte}
use native.Mathlib.Omega.{arith}
use lib.Dec.{eqb}
use lib.Bits.{bit_and, bit_or, and_mask, or_shifted}
use borrow.Author.Tests.{eq-eqb, ne_eqb, eqb-true, eqb-false}
use Rattle.base_packed.specs.Bit.{bit}
use Rattle.base_packed.specs.Basic.{flags_of, octet_of}
use Rattle.base_packed.specs.Used.{key_flags_of, key_nibble, used_of, used_octet}
use Rattle.base_packed.specs.Sak.{sak_flags_of, sak_octet}
use Rattle.base_packed.specs.declared.basic.Flags.{Flags}
use Rattle.base_packed.specs.declared.used.KeyFlags.{KeyFlags}
use Rattle.base_packed.specs.declared.used.Used.{Used}
use Rattle.base_packed.specs.declared.sak.SakFlags.{SakFlags}

-- `|` of parts that do not overlap is their sum
pub or-low : (k a b m : ℕ) → m ≡ a * 2 ^ k → b < 2 ^ k → bit_or m b ≡ m + b
or-low k a b m e h = ap (λ (x : ℕ). bit_or x b) e ∙ or_shifted a k b h ∙ ap (λ (x : ℕ). x + b) (sym e)

-- a flag that is cast to a number
pub byte-bit : (x : Bool) → bool_byte x ≡ bit x
byte-bit true = refl
byte-bit false = refl

pub bit-lt : (x : Bool) → bit x < 2
bit-lt true = omega arith
bit-lt false = omega arith

-- a bit as a flag, and back
pub bit-eqb : (x : ℕ) → x < 2 → bit (eqb x 1) ≡ x
bit-eqb x h = go (eqb x 1) refl
  where
    go : (t : Bool) → eqb x 1 ≡ t → bit (eqb x 1) ≡ x
    go true e = ap bit e ∙ sym (eqb-true x 1 e)
    go false e = let ne : x ≡ 1 → ⊥ = eqb-false x 1 e in ap bit e ∙ omega arith

pub eqb-bit : (n : ℕ) (b : Bool) → n ≡ bit b → eqb n 1 ≡ b
eqb-bit n true e = eq-eqb n 1 e
eqb-bit n false e = ne_eqb n 1 (omega arith)

-- ---- the Basic set's octet

pub basic-sum : (s d k h : ℕ) → s < 2 → d < 2
    → bit_or (bit_or (bit_or (s * 128 % 256) (d * 64 % 256)) (bit_and k 3 * 16 % 256)) (bit_and h 15) ≡ s * 128 + d * 64 + k % 4 * 16 + h % 16
basic-sum s d k h hs hd =
    let e1 : s * 128 % 256 ≡ s * 128 = omega arith in
    let e2 : d * 64 % 256 ≡ d * 64 = omega arith in
    let e3 : bit_and k 3 * 16 % 256 ≡ k % 4 * 16 = omega (arith, and_mask k 2) in
    let o1 : bit_or (s * 128) (d * 64) ≡ s * 128 + d * 64 = or-low 7 s (d * 64) (s * 128) refl (omega arith) in
    let o2 : bit_or (s * 128 + d * 64) (k % 4 * 16) ≡ s * 128 + d * 64 + k % 4 * 16 = or-low 6 (s * 2 + d) (k % 4 * 16) (s * 128 + d * 64) (omega arith) (omega arith) in
    let o3 : bit_or (s * 128 + d * 64 + k % 4 * 16) (h % 16) ≡ s * 128 + d * 64 + k % 4 * 16 + h % 16 = or-low 4 (s * 8 + d * 4 + k % 4) (h % 16) (s * 128 + d * 64 + k % 4 * 16) (omega arith) (omega arith) in
    cc (and_mask h 4)

joined : (b x y z d c h p q : ℕ) → y ≡ z * 2 + d → x ≡ y * 4 + c → b ≡ x * 16 + h → p ≡ z → q ≡ d → p * 128 + q * 64 + c * 16 + h ≡ b
joined b x y z d c h p q e1 e2 e3 e4 e5 = omega arith

-- an octet taken apart and packed again
pub basic-back : (b : ℕ) → b < 256 → octet_of (flags_of b) ≡ b
basic-back b h =
    let e1 : b / 64 ≡ b / 128 * 2 + b / 64 % 2 = omega arith in
    let e2 : b / 16 ≡ b / 64 * 4 + b / 16 % 4 = omega arith in
    let e3 : b ≡ b / 16 * 16 + b % 16 = omega arith in
    let m1 : b / 16 % 4 % 4 ≡ b / 16 % 4 = omega arith in
    let m2 : b % 16 % 16 ≡ b % 16 = omega arith in
    ap₂ (λ (x y : ℕ). bit (eqb (b / 128) 1) * 128 + bit (eqb (b / 64 % 2) 1) * 64 + x * 16 + y) m1 m2
    ∙ joined b (b / 16) (b / 64) (b / 128) (b / 64 % 2) (b / 16 % 4) (b % 16) _ _ e1 e2 e3 (bit-eqb (b / 128) (omega arith)) (bit-eqb (b / 64 % 2) (omega arith))

-- fields packed and taken apart again
pub basic-round : (f : Flags) → f.capability < 4 → f.high < 16 → flags_of (octet_of f) ≡ f
basic-round f hc hh =
    let o = octet_of f in
    let ls = bit-lt f.server in
    let ld = bit-lt f.desired in
    let s : eqb (o / 128) 1 ≡ f.server = eqb-bit (o / 128) f.server (omega arith) in
    let d : eqb (o / 64 % 2) 1 ≡ f.desired = eqb-bit (o / 64 % 2) f.desired (omega arith) in
    let c : o / 16 % 4 ≡ f.capability = omega arith in
    let l : o % 16 ≡ f.high = omega arith in
    λ i. record { server = s i; desired = d i; capability = c i; high = l i }

-- ---- the SAK Use set's octet, a nibble for each key

pub nibble-lt : (f : KeyFlags) → key_nibble f < 16
nibble-lt f = let a = bit-lt f.transmit in let b = bit-lt f.receive in omega arith

pub key-sum : (a t r : ℕ) → t < 2 → r < 2 → bit_or (bit_or (bit_and a 3 * 4 % 256) (t * 2 % 256)) r ≡ a % 4 * 4 + t * 2 + r
key-sum a t r ht hr =
    let e1 : bit_and a 3 * 4 % 256 ≡ a % 4 * 4 = omega (arith, and_mask a 2) in
    let e2 : t * 2 % 256 ≡ t * 2 = omega arith in
    let o1 : bit_or (a % 4 * 4) (t * 2) ≡ a % 4 * 4 + t * 2 = or-low 2 (a % 4) (t * 2) (a % 4 * 4) refl (omega arith) in
    let o2 : bit_or (a % 4 * 4 + t * 2) r ≡ a % 4 * 4 + t * 2 + r = or-low 1 (a % 4 * 2 + t) r (a % 4 * 4 + t * 2) (omega arith) (omega arith) in
    cc

pub use-sum : (n m : ℕ) → n < 16 → m < 16 → bit_or (n * 16 % 256) m ≡ n * 16 + m
use-sum n m hn hm =
    let e : n * 16 % 256 ≡ n * 16 = omega arith in
    ap (λ (x : ℕ). bit_or x m) e ∙ or-low 4 n m (n * 16) refl hm

nibble-joined : (n x c t r p q : ℕ) → n / 2 ≡ c * 2 + t → n ≡ n / 2 * 2 + r → p ≡ t → q ≡ r → c * 4 + p * 2 + q ≡ n
nibble-joined n x c t r p q e1 e2 e3 e4 = omega arith

pub nibble-back : (n : ℕ) → n < 16 → key_nibble (key_flags_of n) ≡ n
nibble-back n h =
    let m : n / 4 % 4 % 4 ≡ n / 4 = omega arith in
    let e1 : n / 2 ≡ n / 4 * 2 + n / 2 % 2 = omega arith in
    let e2 : n ≡ n / 2 * 2 + n % 2 = omega arith in
    ap (λ (x : ℕ). x * 4 + bit (eqb (n / 2 % 2) 1) * 2 + bit (eqb (n % 2) 1)) m
    ∙ nibble-joined n 0 (n / 4) (n / 2 % 2) (n % 2) _ _ e1 e2 (bit-eqb (n / 2 % 2) (omega arith)) (bit-eqb (n % 2) (omega arith))

pub nibble-round : (f : KeyFlags) → f.an < 4 → key_flags_of (key_nibble f) ≡ f
nibble-round f h =
    let n = key_nibble f in
    let lt = bit-lt f.transmit in
    let lr = bit-lt f.receive in
    let a : n / 4 % 4 ≡ f.an = omega arith in
    let t : eqb (n / 2 % 2) 1 ≡ f.transmit = eqb-bit (n / 2 % 2) f.transmit (omega arith) in
    let r : eqb (n % 2) 1 ≡ f.receive = eqb-bit (n % 2) f.receive (omega arith) in
    λ i. record { an = a i; transmit = t i; receive = r i }

pub used-back : (b : ℕ) → b < 256 → used_octet (used_of b) ≡ b
used-back b h =
    ap₂ (λ (x y : ℕ). x * 16 + y) (nibble-back (b / 16) (omega arith)) (nibble-back (b % 16) (omega arith)) ∙ omega arith

pub used-round : (u : Used) → u.latest.an < 4 → u.old.an < 4 → used_of (used_octet u) ≡ u
used-round u hl ho =
    let ll = nibble-lt u.latest in
    let lo = nibble-lt u.old in
    let high : used_octet u / 16 ≡ key_nibble u.latest = omega arith in
    let low : used_octet u % 16 ≡ key_nibble u.old = omega arith in
    let l : key_flags_of (used_octet u / 16) ≡ u.latest = ap key_flags_of high ∙ nibble-round u.latest hl in
    let o : key_flags_of (used_octet u % 16) ≡ u.old = ap key_flags_of low ∙ nibble-round u.old ho in
    λ i. record { latest = l i; old = o i }

-- ---- the Distributed SAK set's octet

pub sak-sum : (a k : ℕ) → bit_or (bit_and a 3 * 64 % 256) (bit_and k 3 * 16 % 256) ≡ a % 4 * 64 + k % 4 * 16
sak-sum a k =
    let e1 : bit_and a 3 * 64 % 256 ≡ a % 4 * 64 = omega (arith, and_mask a 2) in
    let e2 : bit_and k 3 * 16 % 256 ≡ k % 4 * 16 = omega (arith, and_mask k 2) in
    let o : bit_or (a % 4 * 64) (k % 4 * 16) ≡ a % 4 * 64 + k % 4 * 16 = or-low 6 (a % 4) (k % 4 * 16) (a % 4 * 64) refl (omega arith) in
    cc

-- the reserved bits come back as zeros
pub sak-back : (b : ℕ) → b < 256 → sak_octet (sak_flags_of b) ≡ b / 16 * 16
sak-back b h = omega arith

pub sak-round : (f : SakFlags) → f.an < 4 → f.confidentiality < 4 → sak_flags_of (sak_octet f) ≡ f
sak-round f ha hk =
    let a : sak_octet f / 64 ≡ f.an = omega arith in
    let k : sak_octet f / 16 % 4 ≡ f.confidentiality = omega arith in
    λ i. record { an = a i; confidentiality = k i }
