-- What the image of a well-formed participant tells.
use Rattle.std.specs.Prelude.{ℕ, ◌+◌, ◌*◌, ◌^◌, ◌<◌, ◌≤◌, min, ◌≡◌, refl, List, [], ◌∷◌, ◌++◌, Bool, true, false, not, ◌||◌, ltb, eqb}
use Rattle.std.proofs.Math.Path.{ap}
use Rattle.std.proofs.Common.{ap₂, sym, ◌∙◌, arith, length-append, length-take, ltb-false, le-leb, eq-eqb}
use Rattle.std.proofs.Math.ListN.{length}
use Rattle.base_octets.proofs.Fields.{Stands, first, second, moved}
use Rattle.base_packed.specs.Bit.{bit}
use Rattle.base_packed.proofs.Laws.{bit-lt}
use Rattle.law_lists.specs.Lists.{every}
use Rattle.table.specs.Table.{entries, table_of}
use Rattle.table.specs.declared.Peer.{Peer}
use Rattle.law_lists.proofs.Laws.{by_cases, both, first-of, second-of, clash}
use Rattle.participant.specs.Record.{set_table, set_latest, set_old}
use Rattle.participant.specs.Call.{done_of}
use Rattle.participant.specs.declared.Slot.{Slot}
use Rattle.participant.specs.declared.Participant.{Participant}
use Rattle.image_layout.specs.Layout.{Part, records_at, offset_at, laid_of, laid_out}
use Rattle.image_layout.proofs.Round.{Matching, Told, ToldFrom, told, laid-round}
use Rattle.image_own.specs.Own.{own_octets, own_at, own_clean}
use Rattle.image_peer.specs.Peer.{peers_octets, peers_at, peers_clean}
use Rattle.image_key.specs.Key.{key_octets, slot_octets, slot_at, slot_clean}
use Rattle.image_own.proofs.Lengths.{length-own}
use Rattle.law_reread.specs.Fit.{FitKey}
use Rattle.law_reread.specs.Own.{alone}
use Rattle.law_reread.specs.OwnArgument.{own-stands}
use Rattle.law_reread.specs.Peer.{AllTold}
use Rattle.law_reread.proofs.PeerArgument.{peers-stand}
use Rattle.law_reread.specs.KeyArgument.{key-stands}
use Rattle.table_expiry.specs.Kept.{only}
use Rattle.image_rules.specs.Rules.{in_ranges, two_bits, rules}
use Rattle.law_saved.specs.WellFormed.{TidySlot, WellFormed}
use Rattle.image.specs.Image.{own_part, peers_part, keys_part, image_of}
use Rattle.image_reading.specs.Read.{sizes, numbers_good, key_place, clean, told_by, well_formed, read_of}
use Rattle.image.proofs.Laws.{length-peers, length-slot, length-image}

-- ---- the parts of an image have the sizes of their kinds

abbrev pub parts_of : Participant → List Part
parts_of p = own_part p ∷ peers_part p ∷ keys_part p ∷ []

pub few : (p : Participant) → length (entries p.table) ≤ 16
few p = omega (arith, length-take (min p.table.count 16) p.table.peers)

matching : (p : Participant) → WellFormed p → Matching (parts_of p) sizes
unfolding own_part peers_part keys_part
matching p w =
    let a = bit-lt p.latest.held in
    let b = bit-lt p.old.held in
    let keys = length-append (slot_octets p.latest) (slot_octets p.old) in
    let la = length-slot p.latest in
    let lb = length-slot p.old in (
      omega arith,
      length-own p w.own.ckn w.own.wrapped,
      (omega (arith, few p), length-peers p.table, (omega arith, omega arith, tt)),
    )

short : (p : Participant) → WellFormed p → length (laid_of (parts_of p)) < 2 ^ 32
unfolding image_of
short p w =
    let a = bit-lt p.latest.held in
    let b = bit-lt p.old.held in
    omega (arith, length-image p w.own.ckn w.own.wrapped, few p)

pub laid : (p : Participant) → WellFormed p → laid_out (image_of p) sizes ≡ true
unfolding image_of
laid p w = laid-round (parts_of p) sizes (matching p w) (omega arith) (short p w)

tells : (p : Participant) → WellFormed p → ToldFrom (image_of p) 0 28 (parts_of p)
unfolding image_of
tells p w = told (parts_of p) sizes (matching p w) (omega arith) (short p w)

-- ---- the keys

record Slotted (f : List ℕ) (at : ℕ) (there : Bool) (s : Slot) : Type 0 where
  pub same : slot_at f at there ≡ s
  pub clean : slot_clean f at there ≡ true

slot-told : (f : List ℕ) (s : Slot) (at : ℕ) (there : Bool) → FitKey s.key → TidySlot s → there ≡ s.held → (s.held ≡ true → Stands f (key_octets s.key) at) → Slotted f at there s
unfolding slot_at slot_clean
slot-told f s at there h t e st =
    by_cases s.held
    (λ b.
    let k = key-stands f s.key at h (st b) in
    let on = e ∙ b in
    record {
      same = rw on (ap (λ (x : _). record { held = true; key = x }) k.same ∙ sym (t ∙ rw b));
      clean = rw on k.clean;
    })
    (λ b. let off = e ∙ b in record { same = rw off (sym (t ∙ rw b)); clean = rw off })

-- how many keys there are says which
first-there : (a b : Bool) → only b a ≡ true → ltb 0 (bit a + bit b) ≡ a
first-there true true e = refl
first-there true false e = refl
first-there false true e = clash e
first-there false false e = refl

second-there : (a b : Bool) → only b a ≡ true → ltb 1 (bit a + bit b) ≡ b
second-there true true e = refl
second-there true false e = refl
second-there false true e = clash e
second-there false false e = refl

-- a key that is held stands where the keys begin, or 28 octets on
held-octets : (s : Slot) → s.held ≡ true → slot_octets s ≡ key_octets s.key
held-octets s b = rw b

not-over : (a b c d : Bool) → not ((a || b) || (c || d)) ≡ true → b ≡ false
not-over true b c d e = clash e
not-over false true c d e = clash e
not-over false false c d e = refl

-- "the creating ranges"
pub size_small : (p : Participant) → rules p ≡ true → p.size ≤ 32
unfolding rules
size_small p k =
    let e = first-of (in_ranges p) _ k in
    ltb-false 32 p.size (not-over (eqb p.size 0) (ltb 32 p.size) (eqb p.capability 0) (ltb 3 p.capability) e)

module _ (p : Participant) (w : WellFormed p) where
  abbrev image : List ℕ
  image = image_of p

  abbrev peers : List Peer
  peers = entries p.table

  own-told : Told image 0 (own_part p) 28
  own-told = (tells p w).0

  peers-told : Told image 1 (peers_part p) (28 + length (own_octets p))
  unfolding own_part
  peers-told = (tells p w).1.0

  keys-told : Told image 2 (keys_part p) (28 + length (own_octets p) + length (peers_octets peers))
  unfolding own_part peers_part
  keys-told = (tells p w).1.1.0

  capabilities : every two_bits peers ≡ true
  unfolding rules
  capabilities = first-of (every two_bits peers) _ (second-of (in_ranges p) _ w.kept)

  small : p.size ≤ 32
  small = size_small p w.kept

  -- the own record
  own_same : own_at image (offset_at image 0) ≡ alone p
  unfolding own_part
  own_same = ap (own_at image) own-told.offset ∙ (own-stands image p 28 w.own small own-told.body).same

  own-clean : own_clean image (offset_at image 0) ≡ true
  unfolding own_part
  own-clean = ap (own_clean image) own-told.offset ∙ (own-stands image p 28 w.own small own-told.body).clean

  one : records_at image 0 ≡ 1
  unfolding own_part
  one = own-told.records

  -- the peers
  peers-number : records_at image 1 ≡ length peers
  unfolding peers_part
  peers-number = peers-told.records

  peers-all : AllTold image peers (28 + length (own_octets p))
  unfolding peers_part
  peers-all = peers-stand image peers (28 + length (own_octets p)) w.peers capabilities peers-told.body

  table_same : table_of (peers_at image (offset_at image 1) (min (records_at image 1) 16)) ≡ p.table
  table_same =
      let n : min (records_at image 1) 16 ≡ length peers = omega (arith, peers-number, few p) in
      ap₂ (λ (at k : ℕ). table_of (peers_at image at k)) peers-told.offset n ∙ ap table_of peers-all.same ∙ sym w.table

  peers-clean : peers_clean image (offset_at image 1) (records_at image 1) ≡ true
  peers-clean = ap₂ (peers_clean image) peers-told.offset peers-number ∙ peers-all.clean

  -- the keys
  keys-number : records_at image 2 ≡ bit p.latest.held + bit p.old.held
  unfolding keys_part
  keys-number = keys-told.records

  keys-stand : Stands image (slot_octets p.latest ++ slot_octets p.old) (28 + length (own_octets p) + length (peers_octets peers))
  unfolding keys_part
  keys-stand = keys-told.body

  latest-told : Slotted image (key_place image 0) (ltb 0 (records_at image 2)) p.latest
  latest-told =
      let at = 28 + length (own_octets p) + length (peers_octets peers) in
      let there = ap (ltb 0) keys-number ∙ first-there p.latest.held p.old.held w.order in
      slot-told image p.latest (key_place image 0) (ltb 0 (records_at image 2)) w.latest_key w.latest there
      (λ b.
      let st = first image (slot_octets p.latest) (slot_octets p.old) at keys-stand in
      moved image (key_octets p.latest.key) at (key_place image 0) (omega (arith, keys-told.offset)) (rw (held-octets p.latest b) at st))

  old-told : Slotted image (key_place image 1) (ltb 1 (records_at image 2)) p.old
  old-told =
      let at = 28 + length (own_octets p) + length (peers_octets peers) in
      let there = ap (ltb 1) keys-number ∙ second-there p.latest.held p.old.held w.order in
      slot-told image p.old (key_place image 1) (ltb 1 (records_at image 2)) w.old_key w.old there
      (λ b.
      let latest : p.latest.held ≡ true = sym (ap (λ (x : Bool). only x p.latest.held) b) ∙ w.order in
      let n : length (slot_octets p.latest) ≡ 28 = length-slot p.latest ∙ ap (λ (x : Bool). bit x * 28) latest in
      let st = second image (slot_octets p.latest) (slot_octets p.old) at 28 n keys-stand in
      moved image (key_octets p.old.key) (at + 28) (key_place image 1) (omega (arith, keys-told.offset)) (rw (held-octets p.old b) at st))

  -- ---- all of it

  pub told_same : told_by image ≡ p
  unfolding told_by
  told_same = λ i. set_table (table_same i) (set_latest (latest-told.same i) (set_old (old-told.same i) (own_same i)))

  pub accepted : well_formed image ≡ true
  unfolding well_formed numbers_good clean
  accepted =
      let a = bit-lt p.latest.held in
      let b = bit-lt p.old.held in
      let numbers = both _ _ (eq-eqb (records_at image 0) 1 one) (both _ _ (le-leb (records_at image 1) 16 (omega (arith, peers-number, few p))) (le-leb (records_at image 2) 2 (omega (arith, keys-number)))) in
      let whole = both _ _ own-clean (both _ _ peers-clean (both _ _ latest-told.clean old-told.clean)) in
      both _ _ (laid p w) (both _ _ numbers (both _ _ whole (ap rules told_same ∙ w.kept)))

  -- (a) "Each saved port image reads back to the same participant"
  pub reads-back : read_of image ≡ done_of p
  unfolding read_of
  reads-back = rw accepted (ap done_of told_same)
