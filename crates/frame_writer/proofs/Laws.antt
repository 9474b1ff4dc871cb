-- Lengths of a frame's parts.
use Prim.Native.Nat.{ℕ, ◌+◌, ◌*◌, ◌%◌, ◌≤◌, ◌<◌, min}
use mathlib.Core.Path.{◌≡◌, refl, ap, sym, ◌∙◌}
use mathlib.Core.List.{List, [], ◌++◌, map}
use mathlib.Core.Bool.{Bool, true, false, cond}
use native.Mathlib.Omega.{arith}
use Rattle.std.specs.Prelude.{Option, Some, None, is_some, IfSome}
use lib.Dec.{eqb}
use lib.ListN.{length, length-map, length-append, length-take, length-replicate}
use borrow.Author.Tests.{ne_eqb}
use Rattle.base_facts.specs.Facts.{padded_of}
use Rattle.base_mi.specs.Entry.{entry_octets, entries_of}
use Rattle.base_mi.specs.declared.entry.Entry.{Entry}
use Rattle.base_mi.specs.declared.entry.Entries.{Entries}
use Rattle.base_octets.proofs.Laws.{length-be_of}
use Rattle.base_octets.proofs.Stores.{length_runs}
use Rattle.base_mi.proofs.Laws.{length-mi, length-entry}
use Rattle.frame_sets.specs.declared.kinds.KeyUse.{KeyUse}
use Rattle.frame_sets.specs.declared.kinds.SakUse.{SakUse}
use Rattle.frame_writer.specs.declared.Sender.{Sender}
use Rattle.frame_writer.specs.declared.Sak.{Sak}
use Rattle.frame_writer.specs.declared.Mkpdu.{Mkpdu}
use Rattle.frame_writer.specs.Frame.{header_octets, ckn_of, fixed_octets, ckn_octets, basic_octets, set_header, list_octets, list_set, use_octets, use_set, use_part, sak_set, sak_part, body_octets, list_size, frame_size, frame_of}

-- the length of an array of structs that is a struct's field, from what owning the struct tells
pub unmapped : (X Y : Type 0) (f : X → Y) (l : List X) (n : ℕ) → length (map f l) ≡ n → length l ≡ n
unmapped X Y f l n e = sym (length-map l f) ∙ e

pub length-header : (n : ℕ) → length (header_octets n) ≡ 4
unfolding header_octets
length-header n = simp length-be_of

-- ---- the Basic set

pub length-fixed : (x : Sender) (n : ℕ) → length (fixed_octets x n) ≡ 32
unfolding fixed_octets
length-fixed x n = simp (length-append, length-be_of, length-mi)

pub length-ckn : (ckn : List ℕ) → length (ckn_octets ckn) ≡ padded_of (length ckn)
unfolding ckn_octets
length-ckn ckn = simp (length-append, length-replicate) (omega arith)

pub length-basic : (x : Sender) → length (basic_octets x) ≡ 32 + padded_of (length (ckn_of x))
unfolding basic_octets
length-basic x = simp (length-append, length-fixed, length-ckn)

pub length-ckn_of : (x : Sender) → length x.ckn ≡ 32 → length (ckn_of x) ≡ min x.size 32
length-ckn_of x e = length-take (min x.size 32) x.ckn ∙ omega arith

pub ckn_of-le : (x : Sender) → length (ckn_of x) ≤ 32
ckn_of-le x = omega (arith, length-take (min x.size 32) x.ckn)

-- ---- the peer lists

pub length-list : (es : List Entry) → length (list_octets es) ≡ length es * 16
unfolding list_octets
length-list es = length_runs entry_octets 16 length-entry es

pub no-list : (t : ℕ) (es : List Entry) → length es ≡ 0 → list_set t es ≡ []
unfolding list_set
no-list t es e = rw e

pub some-list : (t : ℕ) (es : List Entry) → (length es ≡ 0 → ⊥) → list_set t es ≡ set_header t 0 (length es * 16) ++ list_octets es
unfolding list_set
some-list t es n = rw (ne_eqb _ _ n)

length-cond : (t : Bool) (a b : List ℕ) → length (cond t a b) ≡ cond t (length a) (length b)
length-cond true a b = refl
length-cond false a b = refl

pub length-list_set : (t : ℕ) (es : List Entry) → length (list_set t es) ≡ cond (eqb (length es) 0) 0 (4 + length es * 16)
unfolding list_set
length-list_set t es =
    length-cond (eqb (length es) 0) [] (set_header t 0 (length es * 16) ++ list_octets es)
    ∙ ap (cond (eqb (length es) 0) 0) (length-append (set_header t 0 (length es * 16)) (list_octets es) ∙ ap (λ (n : ℕ). 4 + n) (length-list es))

pub length_some : (t : ℕ) (es : List Entry) → (length es ≡ 0 → ⊥) → length (list_set t es) ≡ 4 + length es * 16
length_some t es n = length-list_set t es ∙ rw (ne_eqb _ _ n)

pub length-entries : (l : Entries) → length l.entries ≡ 16 → length (entries_of l) ≡ min l.count 16
length-entries l e = length-take (min l.count 16) l.entries ∙ omega arith

pub entries_of-le : (l : Entries) → length (entries_of l) ≤ 16
entries_of-le l = omega (arith, length-take (min l.count 16) l.entries)

-- ---- the key sets

pub length-key : (k : KeyUse) → length (use_octets k) ≡ 20
unfolding use_octets
length-key k = simp (length-append, length-be_of, length-mi)

pub length-use : (u : SakUse) → length (use_set u) ≡ 44
unfolding use_set
length-use u = simp (length-append, length-key)

pub length-use_part : (u : Option SakUse) → length (use_part u) ≡ cond (is_some u) 44 0
length-use_part (Some u) = length-use u
length-use_part None = refl

pub length-sak : (k : Sak) → length k.wrapped ≡ 24 → length (sak_set k) ≡ 32
unfolding sak_set
length-sak k e = simp (length-append, length-be_of, e)

-- a key that is there has its 24 octets
abbrev pub Wrapped : Option Sak → Type 0
Wrapped k = IfSome k (λ x. length x.wrapped ≡ 24)

pub length-sak_part : (k : Option Sak) → Wrapped k → length (sak_part k) ≡ cond (is_some k) 32 0
length-sak_part (Some k) e = length-sak k e
length-sak_part None e = refl

-- ---- the whole

pub length-body : (m : Mkpdu)
    → length (body_octets m)
    ≡ length (basic_octets m.sender)
    + (length (list_set 1 (entries_of m.live))
    + (length (list_set 2 (entries_of m.potential))
    + (length (use_part m.usage)
    + (length (sak_part m.sak)
    + 16))))
unfolding body_octets
length-body m = simp (length-append, length-replicate)

pub length-frame : (m : Mkpdu) → length (frame_of m) ≡ 4 + length (body_octets m)
unfolding frame_of
length-frame m = simp (length-append, length-header)

-- what each part adds is a multiple of 4, and bounded
cond-four : (t : Bool) (a b : ℕ) → a % 4 ≡ 0 → b % 4 ≡ 0 → cond t a b % 4 ≡ 0
cond-four true a b p q = p
cond-four false a b p q = q

cond-le : (t : Bool) (a b n : ℕ) → a ≤ n → b ≤ n → cond t a b ≤ n
cond-le true a b n p q = p
cond-le false a b n p q = q

pub basic-four : (x : Sender) → length (basic_octets x) % 4 ≡ 0
basic-four x = omega (arith, length-basic x)

pub basic-le : (x : Sender) → length (basic_octets x) ≤ 64
basic-le x = omega (arith, length-basic x, ckn_of-le x)

pub list_set-four : (t : ℕ) (es : List Entry) → length (list_set t es) % 4 ≡ 0
list_set-four t es = ap (λ (n : ℕ). n % 4) (length-list_set t es) ∙ cond-four (eqb (length es) 0) 0 (4 + length es * 16) refl (omega arith)

pub list_set-le : (t : ℕ) (es : List Entry) → length (list_set t es) ≤ 4 + length es * 16
list_set-le t es = rw (length-list_set t es) (cond-le (eqb (length es) 0) 0 (4 + length es * 16) (4 + length es * 16) (omega arith) (omega arith))

pub entries-le : (t : ℕ) (l : Entries) → length (list_set t (entries_of l)) ≤ 260
entries-le t l = omega (arith, list_set-le t (entries_of l), entries_of-le l)

pub use-le : (u : Option SakUse) → length (use_part u) ≤ 44
use-le u = rw (length-use_part u) (cond-le (is_some u) 44 0 44 (omega arith) (omega arith))

pub sak-le : (k : Option Sak) → Wrapped k → length (sak_part k) ≤ 32
sak-le k e = rw (length-sak_part k e) (cond-le (is_some k) 32 0 32 (omega arith) (omega arith))

pub body-ge : (m : Mkpdu) → 48 ≤ length (body_octets m)
body-ge m = omega (arith, length-body m, length-basic m.sender)

pub body-le : (m : Mkpdu) → Wrapped m.sak → length (body_octets m) ≤ 676
body-le m e =
    omega (
      arith,
      length-body m,
      basic-le m.sender,
      entries-le 1 m.live,
      entries-le 2 m.potential,
      use-le m.usage,
      sak-le m.sak e,
    )

pub body-four : (m : Mkpdu) → Wrapped m.sak → length (body_octets m) % 4 ≡ 0
body-four m e =
    let u : cond (is_some m.usage) 44 0 % 4 ≡ 0 = cond-four (is_some m.usage) 44 0 refl refl in
    let s : cond (is_some m.sak) 32 0 % 4 ≡ 0 = cond-four (is_some m.sak) 32 0 refl refl in
    omega (
      arith,
      length-body m,
      basic-four m.sender,
      list_set-four 1 (entries_of m.live),
      list_set-four 2 (entries_of m.potential),
      length-use_part m.usage,
      length-sak_part m.sak e,
    )

-- ---- the whole's length by what a frame has

pub list-sized : (t : ℕ) (l : Entries) → length l.entries ≡ 16 → length (list_set t (entries_of l)) ≡ list_size (min l.count 16)
unfolding list_size
list-sized t l e = length-list_set t (entries_of l) ∙ rw (length-entries l e)

pub frame-sized : (m : Mkpdu)
    → length m.sender.ckn ≡ 32
    → length m.live.entries ≡ 16
    → length m.potential.entries ≡ 16
    → Wrapped m.sak
    → length (frame_of m) ≡ frame_size m.sender.size m.live.count m.potential.count (is_some m.usage) (is_some m.sak)
unfolding frame_size
frame-sized m ckn live potential wrapped =
    omega (
      arith,
      length-frame m,
      length-body m,
      length-basic m.sender,
      length-ckn_of m.sender ckn,
      list-sized 1 m.live live,
      list-sized 2 m.potential potential,
      length-use_part m.usage,
      length-sak_part m.sak wrapped,
    )

-- and its bounds
pub size-bounds : (size live potential : ℕ) (used distributed : Bool) → (52 ≤ frame_size size live potential used distributed) × (frame_size size live potential used distributed < 1024)
unfolding frame_size list_size
size-bounds size live potential used distributed =
    let l = cond-le (eqb (min live 16) 0) 0 (4 + min live 16 * 16) 260 (omega arith) (omega arith) in
    let p = cond-le (eqb (min potential 16) 0) 0 (4 + min potential 16 * 16) 260 (omega arith) (omega arith) in
    let u = cond-le used 44 0 44 (omega arith) (omega arith) in
    let d = cond-le distributed 32 0 32 (omega arith) (omega arith) in
    (omega arith, omega arith)
