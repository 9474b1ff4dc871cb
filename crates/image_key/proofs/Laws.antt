-- The length of a key's record, its flags as a sum.
use Prim.Native.Nat.{ℕ, ◌+◌, ◌*◌, ◌%◌, ◌<◌}
use mathlib.Core.Bool.{Bool}
use mathlib.Core.Path.{◌≡◌, refl, ap, ◌∙◌}
use mir.Val.{bool_byte}
use native.Mathlib.Omega.{arith}
use lib.Bits.{bit_or}
use lib.ListN.{length, length-append}
use Rattle.base_octets.proofs.Laws.{length-be_of}
use Rattle.base_mi.proofs.Laws.{length-mi}
use Rattle.base_packed.specs.Bit.{bit}
use Rattle.base_packed.proofs.Laws.{or-low, byte-bit, bit-lt}
use Rattle.participant.specs.declared.Key.{Key}
use Rattle.image_key.specs.Key.{key_octets}

pub length-key : (k : Key) → length (key_octets k) ≡ 28
unfolding key_octets
length-key k = simp (length-append, length-be_of, length-mi)

pub key-sum : (t r : ℕ) → t < 2 → r < 2 → bit_or (t * 2 % 256) r ≡ t * 2 + r
key-sum t r ht hr =
    let e : t * 2 % 256 ≡ t * 2 = omega arith in
    ap (λ (x : ℕ). bit_or x r) e ∙ or-low 1 t r (t * 2) refl (omega arith)

-- the same of flags
pub key_sum : (t r : Bool) → bit_or (bool_byte t * 2 % 256) (bool_byte r) ≡ bit t * 2 + bit r
key_sum t r = simp byte-bit (key-sum (bit t) (bit r) (bit-lt t) (bit-lt r))
