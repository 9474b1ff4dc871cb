-- A set that stands in a frame: its header, the walk over it, and what it says, read again.
use Rattle.std.specs.Prelude.{ℕ, ◌+◌, ◌-◌, ◌*◌, ◌/◌, ◌%◌, ◌≤◌, ◌<◌, ◌≡◌, refl, List, [], ◌∷◌, ◌++◌, true, false, length, get_or, Option}
use Rattle.std.proofs.Math.Path.{ap, ap₂}
use Rattle.std.proofs.Common.{sym, ◌∙◌, add-zero, length-append}
use native.Mathlib.Omega.{arith}
use borrow.Author.Tests.{le-ltb, le-leb, ne_eqb}
use Rattle.base_facts.specs.Facts.{padded_of}
use Rattle.base_octets.specs.Number.{be_at, be_of}
use Rattle.base_mi.specs.Mi.{mi_octets}
use Rattle.base_mi.specs.Entry.{entry_octets}
use Rattle.base_mi.specs.declared.entry.Entry.{Entry}
use Rattle.base_octets.proofs.Laws.{length-be_of}
use Rattle.base_mi.proofs.Laws.{length-mi, length-entry}
use Rattle.base_octets.proofs.Fields.{Stands, first, second, moved, octet-stands, number-stands}
use Rattle.base_mi.proofs.Laws.{mi-stands, entry-stands}
use Rattle.base_packed.specs.Used.{used_of, used_octet}
use Rattle.base_packed.specs.Sak.{sak_flags_of, sak_octet}
use Rattle.base_packed.specs.declared.used.Used.{Used}
use Rattle.base_packed.specs.declared.sak.SakFlags.{SakFlags}
use Rattle.base_packed.proofs.Laws.{used-round, sak-round}
use Rattle.frame_sets.specs.Kinds.{key_use_at, sak_use_at, sak_at}
use Rattle.frame_places.specs.Once.{spot_at, holds, places_with}
use Rattle.frame_sets.specs.Set.{len_at, bad_set}
use Rattle.frame_rules.specs.Rules.{allowed, extent_of, unnumbered}
use Rattle.frame_places.specs.declared.Spot.{Spot}
use Rattle.frame_places.specs.declared.Places.{Places}
use Rattle.frame_sets.specs.declared.kinds.KeyUse.{KeyUse}
use Rattle.frame_sets.specs.declared.kinds.SakUse.{SakUse}
use Rattle.frame_walk.specs.List.{entries_from}
use Rattle.frame_walk.specs.Walk.{walk_from}
use Rattle.frame_walk.proofs.Laws.{walk-next}
use Rattle.frame_writer.specs.Frame.{set_header, list_octets, use_flags, use_octets, use_set, sak_set}
use Rattle.frame_writer.specs.declared.Sak.{Sak}
use Rattle.frame_writer.proofs.Laws.{length-key}
use Rattle.law_round.specs.Ranged.{GoodEntries, GoodKey, GoodSak, sak_written}

-- ---- a set's header

module _ (f : List ℕ) (t own len : ℕ) (body : List ℕ) (at : ℕ) (s : Stands f (set_header t own len ++ body) at) where
  abbrev tail1 : List ℕ
  tail1 = own ∷ len / 256 ∷ len % 256 ∷ body

  type_at : get_or f at 0 ≡ t
  type_at = octet-stands f t tail1 at s

  at1 : Stands f tail1 (at + 1)
  at1 = second f (t ∷ []) tail1 at 1 refl s

  own-at : get_or f (at + 1) 0 ≡ own
  own-at = octet-stands f own (len / 256 ∷ len % 256 ∷ body) (at + 1) at1

  at2 : Stands f (len / 256 ∷ len % 256 ∷ body) (at + 2)
  at2 = second f (t ∷ own ∷ []) (len / 256 ∷ len % 256 ∷ body) at 2 refl s

  at3 : Stands f (len % 256 ∷ body) (at + 3)
  at3 = second f (t ∷ own ∷ len / 256 ∷ []) (len % 256 ∷ body) at 3 refl s

  pub body_at : Stands f body (at + 4)
  body_at = second f (set_header t own len) body at 4 refl s

  len-at : len < 4096 → len_at f at ≡ len
  unfolding len_at
  len-at h =
      ap₂ (λ (a b : ℕ). a % 16 * 256 + b) (octet-stands f (len / 256) (len % 256 ∷ body) (at + 2) at2) (octet-stands f (len % 256) body (at + 3) at3) ∙ omega arith

  -- what the walk asks of the set, and where it goes
  module _ (stop : ℕ) (p : Places) (kind : t ≡ 255 → ⊥) (few : len < 4096) (end : stop ≤ length f) (room : at + (4 + padded_of len) ≤ stop)
      (lengths : allowed t len ≡ true) (numbered : unnumbered t len (be_at f (at + 4) 4) ≡ false) (once : holds p t ≡ false) where
    fine : bad_set f at stop p ≡ false
    unfolding bad_set extent_of
    fine =
        let w : 4 + padded_of len ≤ stop - at = omega arith in
        rw (le-ltb (length f) stop end, type_at, len-at few, lengths, numbered, once, ne_eqb t 255 kind, le-leb (4 + padded_of len) (stop - at) w)

    pub walk-over : walk_from f stop at p ≡ walk_from f stop (at + (4 + padded_of len)) (places_with p t at len)
    unfolding extent_of
    walk-over =
        walk-next f stop at p (omega arith) fine
        ∙ rw (type_at, len-at few, ne_eqb t 255 kind)

-- ---- list entries

pub entries-stand : (f : List ℕ) (es : List Entry) (at : ℕ) → GoodEntries es → Stands f (list_octets es) at → entries_from (length es) f at ≡ es
unfolding entries_from list_octets
entries-stand f [] at g s = refl
entries-stand f (e ∷ es) at g s =
    ap₂ (λ (x : Entry) (xs : List Entry). x ∷ xs)
    (entry-stands f e at g.0 g.1 (first f (entry_octets e) (list_octets es) at s))
    (entries-stand f es (at + 16) g.2 (second f (entry_octets e) (list_octets es) at 16 (length-entry e) s))

-- ---- SAK Use

pub key-stands : (f : List ℕ) (k : KeyUse) (at : ℕ) → GoodKey k → Stands f (use_octets k) at → key_use_at f at (use_flags k) ≡ k
unfolding key_use_at use_octets
key-stands f k at g s =
    let after = be_of 4 k.kn ++ be_of 4 k.pn in
    let m = mi-stands f k.mi at g.mi (first f (mi_octets k.mi) after at s) in
    let s12 : Stands f after (at + 12) = second f (mi_octets k.mi) after at 12 (length-mi k.mi) s in
    let kn = number-stands f 4 k.kn (at + 12) g.kn (first f (be_of 4 k.kn) (be_of 4 k.pn) (at + 12) s12) in
    let s16 : Stands f (be_of 4 k.pn) (at + 12 + 4) = second f (be_of 4 k.kn) (be_of 4 k.pn) (at + 12) 4 (length-be_of 4 k.kn) s12 in
    let pn = number-stands f 4 k.pn (at + 16) g.pn (moved f (be_of 4 k.pn) (at + 12 + 4) (at + 16) (omega arith) s16) in
    λ i. record { an = k.an; transmit = k.transmit; receive = k.receive; mi = m i; kn = kn i; pn = pn i }

pub use-stands : (f : List ℕ) (u : SakUse) (at : ℕ) → GoodKey u.latest → GoodKey u.old → Stands f (use_set u) at → sak_use_at f at ≡ u
unfolding sak_use_at use_set
use-stands f u at gl go s =
    let flags : Used = record { latest = use_flags u.latest; old = use_flags u.old } in
    let body = use_octets u.latest ++ use_octets u.old in
    let own : used_of (get_or f (at + 1) 0) ≡ flags = ap used_of (own-at f 3 (used_octet flags) 40 body at s) ∙ used-round flags gl.an go.an in
    let b : Stands f body (at + 4) = body_at f 3 (used_octet flags) 40 body at s in
    let l = ap (λ (v : Used). key_use_at f (at + 4) v.latest) own ∙ key-stands f u.latest (at + 4) gl (first f (use_octets u.latest) (use_octets u.old) (at + 4) b) in
    let s20 : Stands f (use_octets u.old) (at + 4 + 20) = second f (use_octets u.latest) (use_octets u.old) (at + 4) 20 (length-key u.latest) b in
    let o = ap (λ (v : Used). key_use_at f (at + 24) v.old) own ∙ key-stands f u.old (at + 24) go (moved f (use_octets u.old) (at + 4 + 20) (at + 24) (omega arith) s20) in
    λ i. record { latest = l i; old = o i }

-- ---- Distributed SAK

module _ (f : List ℕ) (k : Sak) (at : ℕ) (g : GoodSak k) (s : Stands f (sak_set k) at) where
  abbrev flags : SakFlags
  flags = record { an = k.an; confidentiality = k.confidentiality }

  sak-body : Stands f (be_of 4 k.kn ++ k.wrapped) (at + 4)
  unfolding sak_set
  sak-body = body_at f 4 (sak_octet flags) 28 (be_of 4 k.kn ++ k.wrapped) at s

  pub kn-stands : be_at f (at + 4) 4 ≡ k.kn
  kn-stands = number-stands f 4 k.kn (at + 4) g.kn (first f (be_of 4 k.kn) k.wrapped (at + 4) sak-body)

  pub wrapped-stands : Stands f k.wrapped (at + 8)
  wrapped-stands =
      let e : at + 4 + 4 ≡ at + 8 = omega arith in
      moved f k.wrapped (at + 4 + 4) (at + 8) e (second f (be_of 4 k.kn) k.wrapped (at + 4) 4 (length-be_of 4 k.kn) sak-body)

  pub sak-stands : sak_at f at 28 ≡ sak_written k at
  unfolding sak_at sak_set
  sak-stands =
      let own : sak_flags_of (get_or f (at + 1) 0) ≡ flags = ap sak_flags_of (own-at f 4 (sak_octet flags) 28 (be_of 4 k.kn ++ k.wrapped) at s) ∙ sak-round flags g.an g.confidentiality in
      λ i. record { an = (own i).an; confidentiality = (own i).confidentiality; kn = kn-stands i; suite = 0; place = at + 8; len = 24 }

-- ---- a set that the frame may have: the walk passes it, and knows where it stands

pub walk_none : (f : List ℕ) (at stop : ℕ) (p q : Places) → q ≡ p → walk_from f stop at p ≡ walk_from f stop (at + 0) q
walk_none f at stop p q e = ap₂ (λ (x : ℕ) (r : Places). walk_from f stop x r) (sym (add-zero at)) (sym e)

module _ (f : List ℕ) (t own len : ℕ) (body : List ℕ) (at stop : ℕ) (p : Places) (after : Option Spot → Places)
    (kind : t ≡ 255 → ⊥) (few : len < 4096) (four : len % 4 ≡ 0) (long : length body ≡ len) (end : stop ≤ length f)
    (lengths : allowed t len ≡ true) (once : holds p t ≡ false) (present : (x n : ℕ) → places_with p t x n ≡ after (spot_at x n)) where
  pub walk-there : Stands f (set_header t own len ++ body) at → at + length (set_header t own len ++ body) ≤ stop → unnumbered t len (be_at f (at + 4) 4) ≡ false
      → walk_from f stop at p ≡ walk_from f stop (at + length (set_header t own len ++ body)) (after (spot_at at len))
  walk-there s fit numbered =
      let w : padded_of len ≡ len = omega arith in
      let n : length (set_header t own len ++ body) ≡ 4 + padded_of len = length-append (set_header t own len) body ∙ omega arith in
      let room : at + (4 + padded_of len) ≤ stop = omega arith in
      walk-over f t own len body at s stop p kind few end room lengths numbered once
      ∙ ap₂ (λ (x : ℕ) (q : Places). walk_from f stop (at + x) q) (sym n) (present at len)
