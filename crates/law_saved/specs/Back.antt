-- What is read from an accepted image is well formed, and its image is these octets again.
use Prim.Native.Nat.{ℕ, zero, suc, ◌+◌, ◌*◌, ◌≤◌, min}
use Rattle.std.specs.Prelude.{◌≡◌, List, [], ◌∷◌, ◌++◌, Bool, true, false, ◌&&◌, replicate, take, drop, ltb, eqb, leb}
use Rattle.std.proofs.Math.Path.{refl, ap, ap₂, sym}
use Rattle.std.proofs.Common.{◌∙◌, append-nil, arith}
use Rattle.std.proofs.Math.ListN.{length, length-replicate}
use Rattle.std.proofs.Math.Seq.{length-sets}
use borrow.Author.Tests.{eqb-true, leb-true, ltb-true, lt-ltb}
use Rattle.base_octets.specs.Number.{be_at}
use Rattle.base_octets.specs.Run.{part_of}
use Rattle.base_octets.specs.Octets.{Octets}
use Rattle.base_octets.proofs.Laws.{be_at-lt}
use Rattle.base_mi.specs.Mi.{mi_at}
use Rattle.base_mi.specs.Fitting.{Fitting}
use Rattle.base_packed.specs.Bit.{bit}
use Rattle.table.specs.Table.{entries}
use Rattle.table_expiry.specs.Kept.{only}
use Rattle.table_expiry.proofs.Aging.{entries-table_of, tidy-table_of}
use Rattle.law_lists.proofs.Laws.{by_cases, first-of, second-of}
use Rattle.participant.specs.Keys.{no_slot}
use Rattle.participant.specs.declared.Participant.{Participant}
use Rattle.image_layout.specs.Layout.{records_at, offset_at, laid_of, laid_out, parts_from, parts_in}
use Rattle.image_layout.proofs.Back.{PlacedFrom, laid-placed, laid-back}
use Rattle.image_own.specs.Own.{named_octets, times_octets, kept_octets, own_octets, own_at, own_clean}
use Rattle.image_peer.specs.Peer.{peers_octets, peer_at, peers_at, peers_clean}
use Rattle.image_key.specs.Key.{key_octets, slot_octets, key_at, slot_at, slot_clean}
use Rattle.image_peer.proofs.Laws.{length_peers_at}
use Rattle.law_reread.specs.Fit.{FitPeer, FitPeers, FitKey, FitOwn}
use Rattle.law_reread.specs.Cut.{cut, glue}
use Rattle.law_reread.specs.OwnArgument.{own_back}
use Rattle.law_reread.proofs.PeerArgument.{peers-back}
use Rattle.law_reread.specs.KeyArgument.{key_back}
use Rattle.image_rules.specs.Rules.{rules}
use Rattle.law_saved.specs.WellFormed.{TidySlot, WellFormed}
use Rattle.image.specs.Image.{own_part, peers_part, keys_part, image_of}
use Rattle.image_reading.specs.Read.{sizes, numbers_good, key_place, clean, told_by, well_formed}
use Rattle.law_saved.specs.Told.{size_small}

-- ---- numbers that were read fit

mi-fits : (s : List ℕ) (at : ℕ) → Octets s → Fitting (mi_at s at)
unfolding mi_at
mi-fits s at o = record { hi = be_at-lt s at 8 o; lo = be_at-lt s (at + 8) 4 o }

peer-fits : (s : List ℕ) (at : ℕ) → Octets s → FitPeer (peer_at s at)
unfolding peer_at
peer-fits s at o =
    record {
      mi = mi-fits s at o;
      mn = be_at-lt s (at + 12) 4 o;
      sci = be_at-lt s (at + 16) 8 o;
      accepted = be_at-lt s (at + 28) 8 o;
      proof = be_at-lt s (at + 36) 8 o;
    }

peers-fit : (s : List ℕ) (at n : ℕ) → Octets s → FitPeers (peers_at s at n)
unfolding peers_at
peers-fit s at zero o = tt
peers-fit s at (suc n) o = (peer-fits s at o, peers-fit s (at + 44) n o)

key_fits : (s : List ℕ) (at : ℕ) → Octets s → FitKey (key_at s at)
unfolding key_at
key_fits s at o = record { mi = mi-fits s at o; kn = be_at-lt s (at + 12) 4 o; suite = be_at-lt s (at + 20) 8 o }

slot-fits : (s : List ℕ) (at : ℕ) (there : Bool) → Octets s → FitKey (slot_at s at there).key
unfolding slot_at no_slot
slot-fits s at true o = key_fits s at o
slot-fits s at false o = record { mi = record { hi = omega arith; lo = omega arith }; kn = omega arith; suite = omega arith }

slot-tidy : (s : List ℕ) (at : ℕ) (there : Bool) → TidySlot (slot_at s at there)
unfolding slot_at no_slot
slot-tidy s at true = refl
slot-tidy s at false = refl

slot_held : (s : List ℕ) (at : ℕ) (there : Bool) → (slot_at s at there).held ≡ there
unfolding slot_at no_slot
slot_held s at true = refl
slot_held s at false = refl

in_order : (n : ℕ) → only (ltb 1 n) (ltb 0 n) ≡ true
in_order n = by_cases (ltb 1 n) (λ e. rw e (lt-ltb 0 n (omega (arith, ltb-true 1 n e)))) (λ e. rw e)

-- ---- the keys' octets

keys-back : (s : List ℕ) (at n : ℕ) → Octets s → n ≤ 2 → at + n * 28 ≤ length s
    → slot_clean s (at + 0 * 28) (ltb 0 n) ≡ true
    → slot_clean s (at + 1 * 28) (ltb 1 n) ≡ true
    → slot_octets (slot_at s (at + 0 * 28) (ltb 0 n)) ++ slot_octets (slot_at s (at + 1 * 28) (ltb 1 n)) ≡ cut s at (n * 28)
unfolding slot_at slot_clean no_slot
keys-back s at zero o few fit a b = refl
keys-back s at (suc zero) o few fit a b =
    let z : at + 0 * 28 ≡ at = omega arith in
    append-nil (key_octets (key_at s (at + 0 * 28))) ∙ key_back s (at + 0 * 28) o (omega arith) a ∙ ap (λ (j : ℕ). cut s j 28) z
keys-back s at (suc (suc zero)) o few fit a b =
    let z : at + 0 * 28 ≡ at = omega arith in
    glue s at (at + 1 * 28) 28 28 56 (key_octets (key_at s (at + 0 * 28))) (key_octets (key_at s (at + 1 * 28))) (omega arith) (omega arith)
    (key_back s (at + 0 * 28) o (omega arith) a ∙ ap (λ (j : ℕ). cut s j 28) z)
    (key_back s (at + 1 * 28) o (omega arith) b)
keys-back s at (suc (suc (suc n))) o few fit a b = absurd (omega arith)

keys-held : (n : ℕ) → n ≤ 2 → bit (ltb 0 n) + bit (ltb 1 n) ≡ n
keys-held zero h = refl
keys-held (suc zero) h = refl
keys-held (suc (suc zero)) h = refl
keys-held (suc (suc (suc n))) h = absurd (omega arith)

-- ---- an accepted image

module _ (s : List ℕ) (o : Octets s) (w : well_formed s ≡ true) where
  abbrev told : Participant
  told = told_by s

  laid : laid_out s sizes ≡ true
  unfolding well_formed
  laid = first-of (laid_out s sizes) (numbers_good s && (clean s && rules told)) w

  rest : (numbers_good s && (clean s && rules told)) ≡ true
  unfolding well_formed
  rest = second-of (laid_out s sizes) (numbers_good s && (clean s && rules told)) w

  kept : rules told ≡ true
  kept = second-of (clean s) (rules told) (second-of (numbers_good s) (clean s && rules told) rest)

  numbers : numbers_good s ≡ true
  numbers = first-of (numbers_good s) (clean s && rules told) rest

  cleaned : clean s ≡ true
  cleaned = first-of (clean s) (rules told) (second-of (numbers_good s) (clean s && rules told) rest)

  one : records_at s 0 ≡ 1
  unfolding numbers_good
  one = eqb-true (records_at s 0) 1 (first-of (eqb (records_at s 0) 1) _ numbers)

  sixteen : records_at s 1 ≤ 16
  unfolding numbers_good
  sixteen = leb-true (records_at s 1) 16 (first-of (leb (records_at s 1) 16) (leb (records_at s 2) 2) (second-of (eqb (records_at s 0) 1) _ numbers))

  two : records_at s 2 ≤ 2
  unfolding numbers_good
  two = leb-true (records_at s 2) 2 (second-of (leb (records_at s 1) 16) (leb (records_at s 2) 2) (second-of (eqb (records_at s 0) 1) _ numbers))

  own-clean : own_clean s (offset_at s 0) ≡ true
  unfolding clean
  own-clean = first-of (own_clean s (offset_at s 0)) _ cleaned

  peers-clean : peers_clean s (offset_at s 1) (records_at s 1) ≡ true
  unfolding clean
  peers-clean = first-of (peers_clean s (offset_at s 1) (records_at s 1)) _ (second-of (own_clean s (offset_at s 0)) _ cleaned)

  latest-clean : slot_clean s (key_place s 0) (ltb 0 (records_at s 2)) ≡ true
  unfolding clean
  latest-clean = first-of (slot_clean s (key_place s 0) (ltb 0 (records_at s 2))) _ (second-of (peers_clean s (offset_at s 1) (records_at s 1)) _ (second-of (own_clean s (offset_at s 0)) _ cleaned))

  old-clean : slot_clean s (key_place s 1) (ltb 1 (records_at s 2)) ≡ true
  unfolding clean
  old-clean = second-of (slot_clean s (key_place s 0) (ltb 0 (records_at s 2))) _ (second-of (peers_clean s (offset_at s 1) (records_at s 1)) _ (second-of (own_clean s (offset_at s 0)) _ cleaned))

  placed : PlacedFrom s 0 28 sizes
  placed = laid-placed s sizes laid

  -- "904 octets is the longest good one"
  pub not-long : length s ≤ 904
  not-long = omega (arith, placed.2.2.2, one, sixteen, two)

  -- ---- (c) it is well formed

  few : length (peers_at s (offset_at s 1) (min (records_at s 1) 16)) ≤ 16
  few = omega (arith, length_peers_at s (offset_at s 1) (min (records_at s 1) 16))

  listed_back : entries told.table ≡ peers_at s (offset_at s 1) (min (records_at s 1) 16)
  unfolding told_by
  listed_back = entries-table_of (peers_at s (offset_at s 1) (min (records_at s 1) 16)) few

  own-fits : FitOwn told
  unfolding told_by own_at
  own-fits =
      let at = offset_at s 0 in
      record {
        mi = mi-fits s at o;
        mn = be_at-lt s (at + 12) 4 o;
        sci = be_at-lt s (at + 16) 8 o;
        clock = be_at-lt s (at + 28) 8 o;
        sent = be_at-lt s (at + 36) 8 o;
        kn = be_at-lt s (at + 44) 4 o;
        distributed = be_at-lt s (at + 48) 8 o;
        ckn = length-sets (replicate 32 0) 0 (part_of s (at + 60) 32) ∙ length-replicate {A = ℕ} 32 0;
        wrapped = length-sets (replicate 24 0) 0 (part_of s (at + 92) 24) ∙ length-replicate {A = ℕ} 24 0;
      }

  pub well-formed : WellFormed told
  unfolding told_by
  well-formed =
      let n = records_at s 2 in
      record {
        own = own-fits;
        peers = rw listed_back (peers-fit s (offset_at s 1) (min (records_at s 1) 16) o);
        latest_key = slot-fits s (key_place s 0) (ltb 0 n) o;
        old_key = slot-fits s (key_place s 1) (ltb 1 n) o;
        table = tidy-table_of (peers_at s (offset_at s 1) (min (records_at s 1) 16)) few;
        latest = slot-tidy s (key_place s 0) (ltb 0 n);
        old = slot-tidy s (key_place s 1) (ltb 1 n);
        order = rw (slot_held s (key_place s 1) (ltb 1 n), slot_held s (key_place s 0) (ltb 0 n)) (in_order n);
        kept = kept;
      }

  -- ---- (b) its image is these octets

  size : be_at s (offset_at s 0 + 56) 4 ≤ 32
  unfolding told_by own_at
  size = size_small told kept

  own_same : own_octets told ≡ own_octets (own_at s (offset_at s 0))
  unfolding told_by own_octets named_octets times_octets kept_octets
  own_same = refl

  own-part : own_part told ≡ record { records = records_at s 0; body = take (records_at s 0 * 116) (drop 28 s) }
  unfolding own_part
  own-part =
      let n : 116 ≡ records_at s 0 * 116 = omega (arith, one) in
      let body = own_same ∙ own_back s (offset_at s 0) o (omega (arith, placed.1, placed.2.2.2, one)) own-clean size ∙ ap₂ (cut s) placed.1 n in
      λ i. record { records = sym one i; body = body i }

  peers-part : peers_part told ≡ record { records = records_at s 1; body = take (records_at s 1 * 44) (drop (28 + records_at s 0 * 116) s) }
  unfolding peers_part
  peers-part =
      let n : min (records_at s 1) 16 ≡ records_at s 1 = omega (arith, sixteen) in
      let all : entries told.table ≡ peers_at s (offset_at s 1) (records_at s 1) = listed_back ∙ ap (peers_at s (offset_at s 1)) n in
      let many = ap length all ∙ length_peers_at s (offset_at s 1) (records_at s 1) in
      let body = ap peers_octets all ∙ peers-back s (offset_at s 1) (records_at s 1) o (omega (arith, placed.2.1, placed.2.2.2)) peers-clean ∙ ap (λ (at : ℕ). cut s at (records_at s 1 * 44)) placed.2.1 in
      λ i. record { records = many i; body = body i }

  keys-part : keys_part told ≡ record { records = records_at s 2; body = take (records_at s 2 * 28) (drop (28 + records_at s 0 * 116 + records_at s 1 * 44) s) }
  unfolding keys_part told_by
  keys-part =
      let n = records_at s 2 in
      let many =
      ap₂ (λ (a b : Bool). bit a + bit b) (slot_held s (key_place s 0) (ltb 0 n)) (slot_held s (key_place s 1) (ltb 1 n)) ∙ keys-held n two in
      let body =
      keys-back s (offset_at s 2) n o two (omega (arith, placed.2.2.1, placed.2.2.2)) latest-clean old-clean
      ∙ ap (λ (at : ℕ). cut s at (n * 28)) placed.2.2.1 in
      λ i. record { records = many i; body = body i }

  -- "each image accepted is written again octet for octet"
  pub written-again : image_of told ≡ s
  unfolding image_of parts_in parts_from
  written-again = ap laid_of (λ i. own-part i ∷ peers-part i ∷ keys-part i ∷ []) ∙ sym (laid-back s sizes laid o)
