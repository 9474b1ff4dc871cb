-- How long a number's text is.
use Prim.Native.Nat.{ℕ, zero, suc, ◌-◌, ◌*◌, ◌/◌, ◌%◌, ◌^◌, ◌≤◌, ◌<◌, min, max}
use mathlib.Core.Path.{◌≡◌, refl, ap, ◌∙◌}
use mathlib.Core.List.{[], ◌∷◌}
use native.Mathlib.Numerals.{unary_clauses}
use native.Mathlib.Nat.{pow-suc, pow-le-pow_right}
use native.Mathlib.Omega.{arith}
use lib.ListN.{length, length-append}
use lib.Dec.{lit<}
use Rattle.std.proofs.lemmas.Bool.Decides.{nat_tests}
use borrow.Author.Tests.{lt-ltb}
use Rattle.io.specs.Digits.{last_digits, hex_digit_ascii, IsDigitCount}
use Rattle.base_mi.specs.declared.Mi.{Mi}
use Rattle.page.specs.Text.{places_up_to, decimal_of, hex_of}

pub length_digits : (b k n : ℕ) → length (last_digits b k n) ≡ k
length_digits b zero n = refl
length_digits b (suc k) n = length-append (last_digits b k (n / b)) (hex_digit_ascii (n % b) ∷ []) ∙ omega (arith, length_digits b k (n / b))

-- a number that the least width holds takes just that
pub fewest-least : (b least n k : ℕ) → 0 < b → IsDigitCount b least n k → n < b ^ least → k ≡ least
fewest-least b least n k pos (ge, fits, more) lt =
    let no : least < k → ⊥ = λ h. let le : least ≤ k - 1 = omega arith in omega (arith, more h, pow-le-pow_right {n = b} pos le) in
    omega (arith, no)

-- hexadecimal digits of a width that holds the number
pub hex-digits : (x width k : ℕ) → (0 < width) × (width ≤ 16) → x < 16 ^ width → IsDigitCount 16 (min (max width 1) 16) x k → k ≡ width
hex-digits x width k bounds lt f =
    let w : min (max width 1) 16 ≡ width = omega (arith, bounds.0, bounds.1) in
    fewest-least 16 width x k (lit< tt) (rw w at f) lt

-- a tenth takes a digit fewer
fewest-tenth : (n k : ℕ) → IsDigitCount 10 1 n (suc k) → 10 ≤ n → IsDigitCount 10 1 (n / 10) k
fewest-tenth n zero (ge, fits, more) big = absurd (omega arith)
fewest-tenth n (suc k) (ge, fits, more) big =
    let f : n < 10 ^ suc k * 10 = rw pow-suc at fits in
    let m : 1 < suc k → 10 ^ k * 10 ≤ n = λ h. simp unary_clauses at (more (omega arith)) in
    (omega arith, omega arith, λ h. simp unary_clauses (omega (arith, m h)))

-- the fewest decimal digits, counted
pub fewest-places : (m n k : ℕ) → IsDigitCount 10 1 n k → n < 10 ^ suc m → k ≡ places_up_to (suc m) n
fewest-places m n zero (ge, fits, more) lt = absurd (omega arith)
fewest-places zero n (suc k) f lt = rw (lt-ltb n 10 lt) (fewest-least 10 1 n (suc k) (lit< tt) f lt)
fewest-places (suc m) n (suc k) f lt =
    let l : n < 10 ^ suc m * 10 = rw pow-suc at lt in
    let one : n < 10 → suc k ≡ 1 = fewest-least 10 1 n (suc k) (lit< tt) f in
    let more : 10 ≤ n → k ≡ places_up_to (suc m) (n / 10) = λ big. fewest-places m (n / 10) k (fewest-tenth n k f big) (omega arith) in
    grind (arith, nat_tests)

-- a number of 64 bits is its digits, as many as it needs
pub decimal-digits : (n k : ℕ) → n < 2 ^ 64 → IsDigitCount 10 1 n k → last_digits 10 k n ≡ decimal_of n
unfolding decimal_of
decimal-digits n k lt f = ap (λ (j : ℕ). last_digits 10 j n) (fewest-places 19 n k f (omega arith))

-- a number below 10 ^ (m + 1) has at most m + 1 digits
places-le : (most m n : ℕ) → n < 10 ^ suc m → places_up_to most n ≤ suc m
places-le zero m n lt = omega arith
places-le (suc most) zero n lt = grind (arith, nat_tests)
places-le (suc most) (suc m) n lt = let h = rw pow-suc at lt in
    grind (arith, nat_tests, places-le most m (n / 10) (omega arith))

pub decimal-below : (m n : ℕ) → n < 10 ^ suc m → length (decimal_of n) ≤ suc m
unfolding decimal_of
decimal-below m n lt = omega (arith, length_digits 10 (places_up_to 20 n) n, places-le 20 m n lt)

-- and no number has more than 20
places-most : (most n : ℕ) → places_up_to most n ≤ most
places-most zero n = omega arith
places-most (suc most) n = grind (arith, nat_tests, places-most most (n / 10))

pub decimal-le : (n : ℕ) → length (decimal_of n) ≤ 20
unfolding decimal_of
decimal-le n = omega (arith, length_digits 10 (places_up_to 20 n) n, places-most 20 n)

pub length-hex : (m : Mi) → length (hex_of m) ≡ 24
unfolding hex_of
length-hex m = refl
