-- What is written of the Basic set, read again.
use Rattle.std.specs.Prelude.{ℕ, ◌+◌, ◌-◌, ◌*◌, ◌%◌, ◌^◌, ◌≤◌, ◌<◌, ◌≡◌, List, [], ◌∷◌, ◌++◌, false, length, get_or}
use Rattle.std.proofs.Math.Path.{refl, ap, sym}
use Rattle.std.proofs.Common.{ap₂, ◌∙◌, append_assoc, arith, lit<, le-ltb}
use Rattle.std.proofs.Math.ListN.{length-append}
use Rattle.base_facts.specs.Facts.{padded_of}
use Rattle.base_facts.specs.Numbers.{agility}
use Rattle.base_octets.specs.Number.{be_at, be_of}
use Rattle.base_mi.specs.Mi.{mi_octets}
use Rattle.base_octets.proofs.Laws.{length-be_of}
use Rattle.base_mi.proofs.Laws.{length-mi}
use Rattle.base_octets.proofs.Fields.{Stands, first, second, number-stands}
use Rattle.base_mi.proofs.Laws.{mi-stands}
use Rattle.base_packed.specs.Basic.{flags_of, octet_of}
use Rattle.base_packed.specs.declared.basic.Flags.{Flags}
use Rattle.base_packed.proofs.Laws.{basic-round}
use Rattle.frame.specs.Basic.{body_len, basic_len, icv_place, fact2, fact3, fact4, fact5, basic_fields, basic_of}
use Rattle.std.specs.Prelude.{Ok}
use Rattle.frame_writer.specs.Frame.{header_octets, sender_flags, fixed_octets}
use Rattle.frame_writer.specs.declared.Sender.{Sender}
use Rattle.frame_writer.proofs.Laws.{length-header}
use Rattle.law_round.specs.Ranged.{GoodSender, basic_written}

-- a frame begins with a header of body length b and the Basic set of x before a CKN of n octets
module _ (x : Sender) (b n : ℕ) (q : List ℕ) where
  abbrev pub begun : List ℕ
  begun = header_octets b ++ (fixed_octets x n ++ q)

  abbrev four : List ℕ
  four = 1 ∷ x.priority ∷ octet_of (sender_flags x) ∷ (28 + n) ∷ []

  abbrev rest : List ℕ
  rest = be_of 8 x.sci ++ (mi_octets x.mi ++ (be_of 4 x.mn ++ be_of 4 agility))

  fields : Stands begun rest 8
  unfolding fixed_octets
  fields =
      record {
        before = header_octets b ++ four;
        after = q;
        whole = sym (append_assoc (header_octets b) four (rest ++ q));
        place = length-append (header_octets b) four ∙ ap (λ (k : ℕ). k + 4) (length-header b);
      }

  abbrev after_sci : List ℕ
  after_sci = mi_octets x.mi ++ (be_of 4 x.mn ++ be_of 4 agility)

  after_sci_at : Stands begun after_sci 16
  after_sci_at = second begun (be_of 8 x.sci) after_sci 8 8 (length-be_of 8 x.sci) fields

  after_mi : Stands begun (be_of 4 x.mn ++ be_of 4 agility) 28
  after_mi = second begun (mi_octets x.mi) (be_of 4 x.mn ++ be_of 4 agility) 16 12 (length-mi x.mi) after_sci_at

  after_mn : Stands begun (be_of 4 agility) 32
  after_mn = second begun (be_of 4 x.mn) (be_of 4 agility) 28 4 (length-be_of 4 x.mn) after_mi

  body_at : b < 2 ^ 16 → be_at begun 2 2 ≡ b
  unfolding header_octets
  body_at h =
      number-stands begun 2 b 2 h
      (record { before = 3 ∷ 5 ∷ []; after = fixed_octets x n ++ q; whole = refl; place = refl })

  octets-at : (get_or begun 0 0 ≡ 3) × (get_or begun 1 0 ≡ 5) × (get_or begun 4 0 ≡ 1) × (get_or begun 5 0 ≡ x.priority) × (get_or begun 6 0 ≡ octet_of (sender_flags x)) × (get_or begun 7 0 ≡ 28 + n)
  unfolding header_octets fixed_octets be_of
  octets-at = (refl, refl, refl, refl, refl, refl)

ckn-len : (n : ℕ) → 28 + n - 28 ≡ n
ckn-len n = omega arith

next_place : (n : ℕ) → 8 + padded_of (28 + n) ≡ 36 + padded_of n
next_place n = omega arith

-- any frame that begins so, with a body that fits and is long enough
pub basic-read : (x : Sender) (b : ℕ) (q : List ℕ) → GoodSender x → b < 2 ^ 16 → b + 4 ≤ length (begun x b x.size q) → b % 4 ≡ 0 → 48 + padded_of x.size ≤ b
    → basic_of (begun x b x.size q) ≡ Ok (basic_written x b)
unfolding basic_of basic_fields
basic-read x b q r hb fit m4 room =
    let n = x.size in
    let some = r.some in
    let most = r.most in
    let f = begun x b n q in
    let o = octets-at x b n q in
    let eb : body_len f ≡ b = body_at x b n q hb in
    let fl : flags_of (octet_of (sender_flags x)) ≡ sender_flags x = basic-round (sender_flags x) r.capability (lit< tt) in
    let hi : octet_of (sender_flags x) % 16 ≡ 0 = ap (λ (v : Flags). v.high) fl in
    let el : basic_len f ≡ 28 + n = ap₂ (λ (v w : ℕ). v % 16 * 256 + w) o.4 o.5 ∙ omega arith in
    let t2 : fact2 f ≡ false = rw (le-ltb (length f) 4 (omega arith), eb) (le-ltb (length f - 4) b (omega arith)) in
    let t3 : fact3 f ≡ false = rw (o.0, o.1) in
    let t4 : fact4 b ≡ false = rw (le-ltb b 32 (omega arith), m4) in
    let t5 : fact5 (28 + n) b ≡ false = rw (le-ltb (28 + n) 29 (omega arith), le-ltb 60 (28 + n) (omega arith)) (le-ltb b (4 + padded_of (28 + n) + 16) (omega arith)) in
    rw (t2, t3, eb, t4, el, t5) (λ i. Ok (record {
      version = o.2 i;
      priority = o.3 i;
      server = ((ap flags_of o.4 ∙ fl) i).server;
      desired = ((ap flags_of o.4 ∙ fl) i).desired;
      capability = ((ap flags_of o.4 ∙ fl) i).capability;
      sci = number-stands f 8 x.sci 8 r.sci (first f (be_of 8 x.sci) (after_sci x b n q) 8 (fields x b n q)) i;
      mi = mi-stands f x.mi 16 r.mi (first f (mi_octets x.mi) (be_of 4 x.mn ++ be_of 4 agility) 16 (after_sci_at x b n q)) i;
      mn = number-stands f 4 x.mn 28 r.mn (first f (be_of 4 x.mn) (be_of 4 agility) 28 (after_mi x b n q)) i;
      agility = number-stands f 4 agility 32 (lit< tt) (after_mn x b n q) i;
      size = ckn-len n i;
      next = next_place n i;
      stop = icv_place b;
    }))
