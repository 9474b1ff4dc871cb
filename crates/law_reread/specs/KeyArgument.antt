-- Why: field by field.
use Rattle.std.specs.Prelude.{ℕ, ◌+◌, ◌*◌, ◌/◌, ◌%◌, ◌<◌, ◌≡◌, [], ◌∷◌, ◌++◌, get_or, eqb, ltb}
use Rattle.std.proofs.Common.{ap, sym, ◌∙◌, arith, ltb-true, eqb-true, lt-ltb, eq-eqb}
use Rattle.base_octets.specs.Number.{be_of}
use Rattle.base_octets.proofs.Laws.{length-be_of, be-back}
use Rattle.base_octets.proofs.Fields.{first, octet-stands, number-stands}
use Rattle.base_mi.specs.Mi.{mi_octets}
use Rattle.base_mi.proofs.Laws.{length-mi, mi-stands}
use Rattle.base_packed.specs.Bit.{bit}
use Rattle.base_packed.proofs.Laws.{bit-lt, bit-eqb, eqb-bit}
use Rattle.law_lists.proofs.Laws.{both, first-of, second-of}
use Rattle.image_key.specs.Key.{key_flags, key_octets, key_at, key_clean}
use Rattle.law_reread.specs.Cut.{glue, octet-cut, mi-cut, after-it}
use Rattle.law_reread.specs.Key.{KeyStands, KeyBack}

pub key-stands : KeyStands
unfolding key_octets key_at key_clean
key-stands f k at h s =
    let m = mi_octets k.mi in
    let n = be_of 4 k.kn in
    let v = be_of 8 k.suite in
    let s1 = after-it f m (n ++ (k.an ∷ key_flags k ∷ k.confidentiality ∷ 0 ∷ v)) at 12 (at + 12) (length-mi k.mi) (omega arith) s in
    let s2 = after-it f n (k.an ∷ key_flags k ∷ k.confidentiality ∷ 0 ∷ v) (at + 12) 4 (at + 16) (length-be_of 4 k.kn) (omega arith) s1 in
    let s3 = after-it f (k.an ∷ []) (key_flags k ∷ k.confidentiality ∷ 0 ∷ v) (at + 16) 1 (at + 17) (omega arith) (omega arith) s2 in
    let s4 = after-it f (key_flags k ∷ []) (k.confidentiality ∷ 0 ∷ v) (at + 17) 1 (at + 18) (omega arith) (omega arith) s3 in
    let s5 = after-it f (k.confidentiality ∷ []) (0 ∷ v) (at + 18) 1 (at + 19) (omega arith) (omega arith) s4 in
    let s6 = after-it f (0 ∷ []) v (at + 19) 1 (at + 20) (omega arith) (omega arith) s5 in
    let mi = mi-stands f k.mi at h.mi (first f m (n ++ (k.an ∷ key_flags k ∷ k.confidentiality ∷ 0 ∷ v)) at s) in
    let kn = number-stands f 4 k.kn (at + 12) h.kn (first f n (k.an ∷ key_flags k ∷ k.confidentiality ∷ 0 ∷ v) (at + 12) s1) in
    let an = octet-stands f k.an (key_flags k ∷ k.confidentiality ∷ 0 ∷ v) (at + 16) s2 in
    let flags = octet-stands f (key_flags k) (k.confidentiality ∷ 0 ∷ v) (at + 17) s3 in
    let confidentiality = octet-stands f k.confidentiality (0 ∷ v) (at + 18) s4 in
    let zero = octet-stands f 0 v (at + 19) s5 in
    let suite = number-stands f 8 k.suite (at + 20) h.suite s6 in
    let lt = bit-lt k.transmit in
    let lr = bit-lt k.receive in
    let receive : eqb (get_or f (at + 17) 0 % 2) 1 ≡ k.receive = eqb-bit (get_or f (at + 17) 0 % 2) k.receive (omega arith) in
    let transmit : eqb (get_or f (at + 17) 0 / 2 % 2) 1 ≡ k.transmit = eqb-bit (get_or f (at + 17) 0 / 2 % 2) k.transmit (omega arith) in
    record {
      same = λ i. record { mi = mi i; kn = kn i; suite = suite i; an = an i; confidentiality = confidentiality i; receive = receive i; transmit = transmit i };
      clean = both _ _ (lt-ltb (get_or f (at + 17) 0) 4 (omega arith)) (eq-eqb _ 0 zero);
    }

pub key_back : KeyBack
unfolding key_octets key_at key_clean
key_back s at o fit c =
    let b = get_or s (at + 17) 0 in
    let z = get_or s (at + 19) 0 in
    let lt : b < 4 = ltb-true b 4 (first-of (ltb b 4) (eqb z 0) c) in
    let e : z ≡ 0 = eqb-true z 0 (second-of (ltb b 4) (eqb z 0) c) in
    let r = bit-eqb (b % 2) (omega arith) in
    let t = bit-eqb (b / 2 % 2) (omega arith) in
    let flags : bit (eqb (b / 2 % 2) 1) * 2 + bit (eqb (b % 2) 1) ≡ b = omega arith in
    glue s at (at + 12) 12 16 28 _ _ (omega arith) (omega arith) (mi-cut s at o (omega arith))
    (glue s (at + 12) (at + 16) 4 12 16 _ _ (omega arith) (omega arith) (be-back s (at + 12) 4 o (omega arith))
    (glue s (at + 16) (at + 17) 1 11 12 (get_or s (at + 16) 0 ∷ []) _ (omega arith) (omega arith) (octet-cut s (at + 16) (omega arith))
    (glue s (at + 17) (at + 18) 1 10 11 (_ ∷ []) _ (omega arith) (omega arith) (ap (λ (x : ℕ). x ∷ []) flags ∙ octet-cut s (at + 17) (omega arith))
    (glue s (at + 18) (at + 19) 1 9 10 (get_or s (at + 18) 0 ∷ []) _ (omega arith) (omega arith) (octet-cut s (at + 18) (omega arith))
    (glue s (at + 19) (at + 20) 1 8 9 (0 ∷ []) _ (omega arith) (omega arith) (ap (λ (x : ℕ). x ∷ []) (sym e) ∙ octet-cut s (at + 19) (omega arith))
    (be-back s (at + 20) 8 o (omega arith)))))))
