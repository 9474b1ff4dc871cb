-- How long the parts of an image are, and the image as it is stored.
use Prim.Native.Nat.{ℕ, ◌+◌, ◌*◌}
use mathlib.Core.Path.{◌≡◌, ap, sym, ◌∙◌}
use mathlib.Core.List.{List, ◌++◌, append_assoc, append-nil}
use native.Mathlib.Omega.{arith}
use lib.ListN.{length, length-append}
use lib.Seq.{sets}
use Rattle.base_octets.proofs.Stores.{sets-on, length_runs}
use Rattle.base_packed.specs.Bit.{bit}
use Rattle.table.specs.Table.{entries}
use Rattle.table.specs.declared.Table.{Table}
use Rattle.law_lists.proofs.Laws.{by_cases}
use Rattle.participant.specs.declared.Slot.{Slot}
use Rattle.participant.specs.declared.Participant.{Participant}
use Rattle.image_layout.specs.Layout.{contents_entries, bodies, laid_of}
use Rattle.image_layout.proofs.Laws.{length-head, length-entry}
use Rattle.image_own.specs.Own.{own_octets}
use Rattle.image_peer.specs.Peer.{peer_octets, peers_octets}
use Rattle.image_key.specs.Key.{slot_octets}
use Rattle.image_peer.proofs.Laws.{length-peer}
use Rattle.image_key.proofs.Laws.{length-key}
use Rattle.image_own.proofs.Lengths.{length-own}
use Rattle.image.specs.Image.{own_part, peers_part, keys_part, contents_for, image_of}

pub length-peers : (t : Table) → length (peers_octets (entries t)) ≡ length (entries t) * 44
unfolding peers_octets
length-peers t = length_runs peer_octets 44 length-peer (entries t)

pub length-slot : (s : Slot) → length (slot_octets s) ≡ bit s.held * 28
length-slot s = by_cases s.held (λ e. rw e (length-key s.key)) (λ e. rw e)

pub length-contents : (n k : ℕ) → length (contents_for n k) ≡ 28
unfolding contents_for
length-contents n k = simp (length-append, length-head, length-entry)

-- the image of a participant whose own record has its length
module _ (p : Participant) (ckn : length p.ckn ≡ 32) (wrapped : length p.wrapped ≡ 24) where
  pub image-is :
      image_of p
      ≡ contents_for (length (entries p.table)) (bit p.latest.held + bit p.old.held)
      ++ (own_octets p ++ (peers_octets (entries p.table) ++ (slot_octets p.latest ++ slot_octets p.old)))
  unfolding image_of laid_of contents_entries bodies own_part peers_part keys_part contents_for
  image-is = simp (length-own p ckn wrapped, length-peers, append-nil, append_assoc)

  pub length-image : length (image_of p) ≡ 144 + length (entries p.table) * 44 + bit p.latest.held * 28 + bit p.old.held * 28
  length-image = ap length image-is ∙ simp (length-append, length-contents, length-own p ckn wrapped, length-peers, length-slot) (omega arith)

  -- its parts, each stored where the last one ended, if n peers are held
  pub image-stored : (n : ℕ) → length (entries p.table) ≡ n → (l l1 l2 l3 l4 l5 : List ℕ) (k keys next : ℕ)
      → k ≡ bit p.latest.held + bit p.old.held
      → keys ≡ 144 + n * 44
      → next ≡ keys + bit p.latest.held * 28
      → l1 ≡ sets l 0 (contents_for n k)
      → l2 ≡ sets l1 28 (own_octets p)
      → l3 ≡ sets l2 144 (peers_octets (entries p.table))
      → l4 ≡ sets l3 keys (slot_octets p.latest)
      → l5 ≡ sets l4 next (slot_octets p.old)
      → l5 ≡ sets l 0 (image_of p)
  image-stored n many l l1 l2 l3 l4 l5 k keys next ek ekeys enext e1 e2 e3 e4 e5 =
      let own = own_octets p in
      let peers = peers_octets (entries p.table) in
      let a = slot_octets p.latest in
      let b = slot_octets p.old in
      sets-on l l1 l5 0 28 (contents_for n k) (own ++ (peers ++ (a ++ b))) (omega (arith, length-contents n k)) e1
      (sets-on l1 l2 l5 28 144 own (peers ++ (a ++ b)) (omega (arith, length-own p ckn wrapped)) e2
      (sets-on l2 l3 l5 144 keys peers (a ++ b) (omega (arith, length-peers p.table, many)) e3 (sets-on l3 l4 l5 keys next a b (omega (arith, length-slot p.latest)) e4 e5)))
      ∙ ap (λ (j : ℕ). sets l 0 (contents_for n j ++ (own ++ (peers ++ (a ++ b))))) ek
      ∙ ap (λ (j : ℕ). sets l 0 (contents_for j (bit p.latest.held + bit p.old.held) ++ (own ++ (peers ++ (a ++ b))))) (sym many)
      ∙ ap (sets l 0) (sym image-is)
