-- "Reading an EAPOL-MKA frame": the header, the Basic set, and facts 2 to 5.
use Rattle.std.specs.Prelude.{ℕ, ◌+◌, ◌-◌, ◌*◌, ◌%◌, List, [], ◌∷◌, Bool, cond, not, ◌||◌, length, get_or, ltb, eqb, Option, Some, None, Result}
use Rattle.base_facts.specs.Facts.{first_of, padded_of}
use Rattle.base_facts.specs.Refusal.{told}
use Rattle.base_facts.specs.declared.Refusal.{Refusal}
use Rattle.base_octets.specs.Number.{be_at}
use Rattle.base_mi.specs.Mi.{mi_at}
use Rattle.base_packed.specs.Basic.{flags_of}
use Rattle.frame.specs.declared.Basic.{Basic}

-- "Header: version, type, 2-octet body length."
abbrev pub body_len : List ℕ → ℕ
body_len s = be_at s 2 2

-- "the high four bits of the set's length; the low eight bits of that length"
abbrev pub basic_len : List ℕ → ℕ
basic_len s = get_or s 6 0 % 16 * 256 + get_or s 7 0

-- "The body is the Basic set, further sets, then the 16-octet ICV": the ICV's place, by the body's length
abbrev pub icv_place : ℕ → ℕ
icv_place body = 4 + body - 16

-- 2: "under 4 octets, or body length beyond the slice"
abbrev pub fact2 : List ℕ → Bool
fact2 s = ltb (length s) 4 || ltb (length s - 4) (body_len s)

-- 3: "EAPOL version under 3 or type not 5"
abbrev pub fact3 : List ℕ → Bool
fact3 s = ltb (get_or s 0 0) 3 || not (eqb (get_or s 1 0) 5)

-- 4: "body under 32 or not a multiple of 4"
abbrev pub fact4 : ℕ → Bool
fact4 body = ltb body 32 || not (eqb (body % 4) 0)

-- 5: "Basic length not 29 to 60, or Basic set with padding and ICV exceeds the body"
abbrev pub fact5 : ℕ → ℕ → Bool
fact5 n body = ltb n 29 || (ltb 60 n || ltb body (4 + padded_of n + 16))

-- The body length, where fact 2 does not hold.
unfoldable pub length_of : List ℕ → Option ℕ
length_of s = cond (fact2 s) None (Some (body_len s))

-- "MKA version; Key Server priority; [the packed octet]; SCI 8, member identifier (MI) 12, message number (MN) 4, algorithm agility 4, CKN",
-- of a Basic set of length n in a body of the length given; then where the further sets begin, and where the 16-octet ICV does.
unfoldable pub basic_fields : List ℕ → ℕ → ℕ → Basic
basic_fields s n body =
    record {
      version = get_or s 4 0;
      priority = get_or s 5 0;
      server = (flags_of (get_or s 6 0)).server;
      desired = (flags_of (get_or s 6 0)).desired;
      capability = (flags_of (get_or s 6 0)).capability;
      sci = be_at s 8 8;
      mi = mi_at s 16;
      mn = be_at s 28 4;
      agility = be_at s 32 4;
      size = n - 28;
      next = 8 + padded_of n;
      stop = icv_place body;
    }

-- Facts 2 to 5 of a frame, in their order.
abbrev pub basic_facts : List ℕ → List (ℕ × Bool)
basic_facts s = (2, fact2 s) ∷ (3, fact3 s) ∷ (4, fact4 (body_len s)) ∷ (5, fact5 (basic_len s) (body_len s)) ∷ []

-- The Basic set, or the refusal of the first fact that holds.
unfoldable pub basic_of : List ℕ → Result Basic Refusal
basic_of s = told (first_of (basic_facts s)) (basic_fields s (basic_len s) (body_len s))
