-- Reading any frame that the writer writes passes facts 2 to 5, walks to the end, and gives back every field and every list entry.
use Rattle.std.specs.Prelude.{ℕ, ◌+◌, ◌-◌, ◌*◌, ◌/◌, ◌%◌, ◌≤◌, ◌<◌, ◌≡◌, Bool, true, false, cond, not, eqb, Option, Some, None, IfSome, is_some, Ok}
use Rattle.std.proofs.Math.Path.{refl}
use Rattle.std.proofs.Common.{ap, sym, ◌∙◌, arith, lit<, eq-eqb, ne_eqb, eqb-true}
use mathlib.Core.List.{List, [], ◌∷◌, ◌++◌, append_assoc}
use Rattle.std.proofs.Math.ListN.{length, replicate, length-append}
use Rattle.base_facts.specs.Facts.{padded_of}
use Rattle.base_mi.specs.Entry.{entries_of}
use Rattle.base_octets.specs.Run.{part_of}
use Rattle.base_octets.specs.Number.{be_of}
use Rattle.base_mi.specs.declared.entry.Entry.{Entry}
use Rattle.base_octets.proofs.Laws.{length-be_of}
use Rattle.base_octets.proofs.Fields.{Stands, first, second, octet-stands, part-stands}
use Rattle.base_packed.specs.Used.{used_octet}
use Rattle.base_packed.specs.Sak.{sak_octet}
use Rattle.frame.specs.Basic.{icv_place, basic_of}
use Rattle.frame.specs.Ours.{same_at, fact6, fact7}
use Rattle.frame_sets.specs.Kinds.{sak_use_at, sak_at}
use Rattle.frame_places.specs.Once.{spot_at, no_places, holds, places_with}
use Rattle.frame_rules.specs.Rules.{is_list, unnumbered}
use Rattle.frame_places.specs.declared.Spot.{Spot}
use Rattle.frame_places.specs.declared.Places.{Places}
use Rattle.frame_sets.specs.declared.kinds.SakUse.{SakUse}
use Rattle.frame_writer.specs.declared.Sak.{Sak}
use Rattle.frame_walk.specs.List.{entries_from, list_at}
use Rattle.frame_walk.specs.Walk.{walk_from, walk_of}
use Rattle.frame_walk.proofs.Laws.{walk_end}
use Rattle.frame_writer.specs.Frame.{header_octets, ckn_of, ckn_octets, fixed_octets, basic_octets, set_header, list_octets, list_set, use_flags, use_octets, use_set, use_part, sak_set, sak_part, body_octets, frame_of}
use Rattle.frame_writer.specs.declared.Mkpdu.{Mkpdu}
use Rattle.frame_writer.proofs.Laws.{length-header, length-fixed, length-basic, length-ckn_of, length-list, length-key, length-body, length-frame, entries_of-le, body-le, body-four, Wrapped}
use Rattle.law_round.specs.Ranged.{Ranged, GoodUse, GoodSak, listed, basic_written, live_place, potential_place, use_place, sak_place, spot_if, list_spot, places_written, sak_written, GoodEntries}
use Rattle.law_round.proofs.Basic.{begun, basic-read}
use Rattle.law_round.proofs.Sets.{walk_none, walk-there, body_at, entries-stand, use-stands, kn-stands, wrapped-stands, sak-stands}

-- the entries of a list that stands in a frame, or of none
list_back : (f : List ℕ) (t : ℕ) (es : List Entry) (at : ℕ) (b : Bool) → eqb (length es) 0 ≡ b → GoodEntries es → Stands f (list_set t es) at
    → listed f (spot_if (not b) at (length es * 16)) ≡ es
unfolding list_at entries_from list_set
list_back f t [] at true e g s = refl
list_back f t (x ∷ es) at true e g s = let z : length (x ∷ es) ≡ 0 = eqb-true (length (x ∷ es)) 0 e in absurd (omega arith)
list_back f t es at false e g s =
    let st : Stands f (set_header t 0 (length es * 16) ++ list_octets es) at = rw e at s in
    let n : length es * 16 / 16 ≡ length es = omega arith in
    ap (λ (k : ℕ). entries_from k f (at + 4)) n ∙ entries-stand f es (at + 4) g (body_at f t 0 (length es * 16) (list_octets es) at st)

-- the places, one set after the other
abbrev with1 : Option Spot → Places
with1 a = record { live = a; potential = None; sak_use = None; sak = None }

abbrev with2 : Option Spot → Option Spot → Places
with2 a b = record { live = a; potential = b; sak_use = None; sak = None }

abbrev with3 : Option Spot → Option Spot → Option Spot → Places
with3 a b c = record { live = a; potential = b; sak_use = c; sak = None }

abbrev with4 : Option Spot → Option Spot → Option Spot → Option Spot → Places
with4 a b c d = record { live = a; potential = b; sak_use = c; sak = d }

wrapped-whole : (k : Option Sak) → IfSome k GoodSak → Wrapped k
wrapped-whole None g = tt
wrapped-whole (Some k) g = g.wrapped

-- "The key number (KN) is not zero": in a Distributed SAK that is sent
sak-numbered : (kn : ℕ) → 0 < kn → unnumbered 4 28 kn ≡ false
sak-numbered kn h = let n : kn ≡ 0 → ⊥ = omega arith in ne_eqb kn 0 n

-- octets that stand in a frame are found the same
same-stands : (g xs : List ℕ) (at : ℕ) → Stands g xs at → same_at g at xs ≡ true
unfolding same_at
same-stands g [] at s = refl
same-stands g (x ∷ xs) at s = rw (eq-eqb _ _ (octet-stands g x xs at s)) (same-stands g xs (at + 1) (second g (x ∷ []) xs at 1 refl s))

-- the key sets, where a frame has them
use-read : (g : List ℕ) (u : Option SakUse) (at : ℕ) → IfSome u GoodUse → Stands g (use_part u) at → IfSome u (λ x. sak_use_at g at ≡ x)
use-read g None at r s = tt
use-read g (Some u) at r s = use-stands g u at r.latest r.old s

sak-read : (g : List ℕ) (k : Option Sak) (at : ℕ) → IfSome k GoodSak → Stands g (sak_part k) at → IfSome k (λ x. sak_at g at 28 ≡ sak_written x at)
sak-read g None at r s = tt
sak-read g (Some k) at r s = sak-stands g k at r s

wrapped-read : (g : List ℕ) (k : Option Sak) (at : ℕ) → IfSome k GoodSak → Stands g (sak_part k) at → IfSome k (λ x. part_of g (at + 8) 24 ≡ x.wrapped)
wrapped-read g None at r s = tt
wrapped-read g (Some k) at r s = ap (part_of g (at + 8)) (sym r.wrapped) ∙ part-stands g k.wrapped (at + 8) (wrapped-stands g k at r s)

-- the walk over them
module _ (g : List ℕ) (at stop : ℕ) (end : stop ≤ length g) where
  use-walk : (a b : Option Spot) (u : Option SakUse) → Stands g (use_part u) at → at + length (use_part u) ≤ stop
      → walk_from g stop at (with2 a b) ≡ walk_from g stop (at + length (use_part u)) (with3 a b (spot_if (is_some u) at 40))
  unfolding places_with holds use_set
  use-walk a b None s fit = walk_none g at stop _ _ refl
  use-walk a b (Some u) s fit =
      walk-there g 3 (used_octet (record { latest = use_flags u.latest; old = use_flags u.old })) 40 (use_octets u.latest ++ use_octets u.old) at stop (with2 a b) (with3 a b)
      (omega arith) (lit< tt) refl (length-append (use_octets u.latest) (use_octets u.old) ∙ omega (arith, length-key u.latest, length-key u.old)) end refl refl (λ x n. refl) s fit refl

  sak-walk : (a b c : Option Spot) (k : Option Sak) → IfSome k GoodSak → IfSome k (λ x. 0 < x.kn) → Stands g (sak_part k) at → at + length (sak_part k) ≤ stop
      → walk_from g stop at (with3 a b c) ≡ walk_from g stop (at + length (sak_part k)) (with4 a b c (spot_if (is_some k) at 28))
  unfolding places_with holds sak_set
  sak-walk a b c None r n s fit = walk_none g at stop _ _ refl
  sak-walk a b c (Some k) r n s fit =
      walk-there g 4 (sak_octet (record { an = k.an; confidentiality = k.confidentiality })) 28 (be_of 4 k.kn ++ k.wrapped) at stop (with3 a b c) (with4 a b c)
      (omega arith) (lit< tt) refl (length-append (be_of 4 k.kn) k.wrapped ∙ omega (arith, length-be_of 4 k.kn, r.wrapped)) end refl refl (λ x m. refl) s fit
      (rw (kn-stands g k at r s) (sak-numbered k.kn n))

  list-walk : (t : ℕ) (es : List Entry) (p : Places) (after : Option Spot → Places) → (t ≡ 255 → ⊥) → is_list t ≡ true → eqb t 4 ≡ false → length es ≤ 16
      → holds p t ≡ false → after None ≡ p → ((x n : ℕ) → places_with p t x n ≡ after (spot_at x n))
      → Stands g (list_set t es) at → at + length (list_set t es) ≤ stop
      → walk_from g stop at p ≡ walk_from g stop (at + length (list_set t es)) (after (list_spot es at))
  unfolding list_set
  list-walk t es p after kind list other few once absent present = go (eqb (length es) 0)
    where
      set : List ℕ
      set = set_header t 0 (length es * 16) ++ list_octets es

      go : (e : Bool) → Stands g (cond e [] set) at → at + length (cond e [] set) ≤ stop
          → walk_from g stop at p ≡ walk_from g stop (at + length (cond e [] set)) (after (spot_if (not e) at (length es * 16)))
      go true s fit = walk_none g at stop p _ absent
      go false s fit =
          let n : length es * 16 % 16 ≡ 0 = omega arith in
          walk-there g t 0 (length es * 16) (list_octets es) at stop p after kind (omega arith) (omega arith) (length-list es) end (rw (list, n)) once present s fit (rw other)

-- a frame that was written, with whatever follows it
module _ (m : Mkpdu) (rest : List ℕ) (r : Ranged m) where
  abbrev f : List ℕ
  f = frame_of m ++ rest

  abbrev b : ℕ
  b = length (body_octets m)

  abbrev live : List Entry
  live = entries_of m.live

  abbrev potential : List Entry
  potential = entries_of m.potential

  abbrev lists : List ℕ
  lists = list_set 1 live ++ (list_set 2 potential ++ (use_part m.usage ++ (sak_part m.sak ++ replicate 16 0)))

  ckn-size : length (ckn_of m.sender) ≡ m.sender.size
  ckn-size = let most = r.sender.most in length-ckn_of m.sender r.sender.ckn ∙ omega arith

  basic-size : length (basic_octets m.sender) ≡ 32 + padded_of m.sender.size
  basic-size = length-basic m.sender ∙ ap (λ (k : ℕ). 32 + padded_of k) ckn-size

  sets-stand : Stands f lists (live_place m)
  unfolding frame_of body_octets
  sets-stand =
      record {
        before = header_octets b ++ basic_octets m.sender;
        after = rest;
        whole = simp append_assoc;
        place = length-append (header_octets b) (basic_octets m.sender) ∙ omega (arith, length-header b, basic-size);
      }

  live-stands : Stands f (list_set 1 live) (live_place m)
  live-stands = first f (list_set 1 live) _ (live_place m) sets-stand

  sets2 : Stands f (list_set 2 potential ++ (use_part m.usage ++ (sak_part m.sak ++ replicate 16 0))) (potential_place m)
  sets2 = second f (list_set 1 live) _ (live_place m) (length (list_set 1 live)) refl sets-stand

  potential-stands : Stands f (list_set 2 potential) (potential_place m)
  potential-stands = first f (list_set 2 potential) _ (potential_place m) sets2

  sets3 : Stands f (use_part m.usage ++ (sak_part m.sak ++ replicate 16 0)) (use_place m)
  sets3 = second f (list_set 2 potential) _ (potential_place m) (length (list_set 2 potential)) refl sets2

  use-stand : Stands f (use_part m.usage) (use_place m)
  use-stand = first f (use_part m.usage) _ (use_place m) sets3

  sets4 : Stands f (sak_part m.sak ++ replicate 16 0) (sak_place m)
  sets4 = second f (use_part m.usage) _ (use_place m) (length (use_part m.usage)) refl sets3

  sak-stand : Stands f (sak_part m.sak) (sak_place m)
  sak-stand = first f (sak_part m.sak) _ (sak_place m) sets4

  flat : f ≡ header_octets b ++ (fixed_octets m.sender (length (ckn_of m.sender)) ++ (ckn_octets (ckn_of m.sender) ++ (lists ++ rest)))
  unfolding frame_of body_octets basic_octets
  flat = simp append_assoc

  -- facts 2 to 5 pass, and the Basic set is read as it was written
  pub basic-back : basic_of f ≡ Ok (basic_written m.sender b)
  basic-back =
      let x = m.sender in
      let q = ckn_octets (ckn_of x) ++ (lists ++ rest) in
      let shape : f ≡ begun x b x.size q = flat ∙ ap (λ (k : ℕ). header_octets b ++ (fixed_octets x k ++ q)) ckn-size in
      let whole = wrapped-whole m.sak r.sak in
      let le = body-le m whole in
      let lb = length-body m in
      let lf = ap length (sym shape) ∙ length-append (frame_of m) rest in
      rw shape (basic-read x b q r.sender (omega arith) (omega (arith, length-frame m)) (body-four m whole) (omega (arith, basic-size)))

  ckn-stands : Stands f (ckn_of m.sender) 36
  unfolding ckn_octets
  ckn-stands =
      record {
        before = header_octets b ++ fixed_octets m.sender (length (ckn_of m.sender));
        after = replicate (padded_of (length (ckn_of m.sender)) - length (ckn_of m.sender)) 0 ++ (lists ++ rest);
        whole = flat ∙ simp append_assoc;
        place = length-append (header_octets b) (fixed_octets m.sender (length (ckn_of m.sender))) ∙ omega (arith, length-header b, length-fixed m.sender (length (ckn_of m.sender)));
      }

  -- facts 6 and 7 don't hold for one who has the same CKN
  pub ckn-back : fact6 f (basic_written m.sender b) (ckn_of m.sender) ≡ false
  unfolding fact6
  ckn-back = rw (eq-eqb _ _ (sym ckn-size), same-stands f (ckn_of m.sender) 36 ckn-stands)

  pub agility-back : fact7 (basic_written m.sender b) ≡ false
  agility-back = refl

  -- the walk comes to the end, and tells where each set stands
  stop-fits : icv_place b ≤ length f
  stop-fits = omega (arith, length-append (frame_of m) rest, length-frame m)

  ends : sak_place m + length (sak_part m.sak) ≡ icv_place b
  ends = omega (arith, length-body m, basic-size)

  pub walk-back : walk_of f (live_place m) (icv_place b) ≡ Ok (places_written m)
  unfolding walk_of places_with holds
  walk-back =
      let l1 = length (list_set 1 live) in
      let l2 = length (list_set 2 potential) in
      let l3 = length (use_part m.usage) in
      let l4 = length (sak_part m.sak) in
      let z = ends in
      let a = list_spot live (live_place m) in
      let c = list_spot potential (potential_place m) in
      let d = spot_if (is_some m.usage) (use_place m) 40 in
      list-walk f (live_place m) (icv_place b) stop-fits 1 live no_places with1 (omega arith) refl refl (entries_of-le m.live) refl refl (λ x n. refl) live-stands (omega arith)
      ∙ list-walk f (potential_place m) (icv_place b) stop-fits 2 potential (with1 a) (with2 a) (omega arith) refl refl (entries_of-le m.potential) refl refl (λ x n. refl) potential-stands (omega arith)
      ∙ use-walk f (use_place m) (icv_place b) stop-fits a c m.usage use-stand (omega arith)
      ∙ sak-walk f (sak_place m) (icv_place b) stop-fits a c d m.sak r.sak r.numbered sak-stand (omega arith)
      ∙ walk_end f (icv_place b) (sak_place m + l4) (with4 a c d (spot_if (is_some m.sak) (sak_place m) 28)) (omega arith)

  -- every entry of both lists comes back, in order
  pub live_back : listed f (places_written m).live ≡ live
  live_back = list_back f 1 live (live_place m) (eqb (length live) 0) refl r.live live-stands

  pub potential-back : listed f (places_written m).potential ≡ potential
  potential-back = list_back f 2 potential (potential_place m) (eqb (length potential) 0) refl r.potential potential-stands

  -- the SAK Use set's keys, and the Distributed SAK with its wrapped key
  pub use-back : IfSome m.usage (λ u. sak_use_at f (use_place m) ≡ u)
  use-back = use-read f m.usage (use_place m) r.usage use-stand

  pub sak-back : IfSome m.sak (λ k. sak_at f (sak_place m) 28 ≡ sak_written k (sak_place m))
  sak-back = sak-read f m.sak (sak_place m) r.sak sak-stand

  pub wrapped-back : IfSome m.sak (λ k. part_of f (sak_place m + 8) 24 ≡ k.wrapped)
  wrapped-back = wrapped-read f m.sak (sak_place m) r.sak sak-stand
