use Rattle.std.proofs.Common.{ℕ, ◌<◌, ◌≡◌, false, List, length, replicate, sym, ◌∙◌, arith, rules}
use Rattle.std.specs.Array.{AllOfLen}
use Rattle.std.proofs.lemmas.List.{same_lists, length-replicate, get_or-replicate}
use Rattle.table.specs.Table.{blank_peer, empty_table}
use Rattle.table.specs.declared.Peer.{Peer}
use Rattle.participant.specs.Keys.{no_slot}
use Rattle.participant.specs.declared.Slot.{Slot}
use Rattle.call_creation.specs.Create.{empty_participant, fresh}
use Rattle.call_creation.proofs.blank.Goals as goal

-- an array whose elements all are x
all_same : {X : Type 0} (x : X) (P : X → Type 0) → ((y : X) → P y → y ≡ x) → (l : List X) (n : ℕ) → AllOfLen P l n → l ≡ replicate n x
all_same x P one l n h =
    let sized : length l ≡ n = h.long in
    same_lists l (replicate n x) (sized ∙ sym (length-replicate n x))
    (λ k d lt. let inside : k < n = omega arith in one _ (h.at k d inside) ∙ sym (get_or-replicate n k x d inside))

-- a slot's and a peer's fields, in their order
slot_blank : (s : Slot) → (s.held ≡ false) × (((s.key.mi.hi ≡ 0) × (s.key.mi.lo ≡ 0)) × ((s.key.kn ≡ 0) × ((s.key.suite ≡ 0) × ((s.key.an ≡ 0) × ((s.key.confidentiality ≡ 0) × ((s.key.receive ≡ false) × (s.key.transmit ≡ false)))))))
    → s ≡ no_slot
unfolding no_slot
slot_blank s h = search rules

peer_blank : (p : Peer) → ((p.mi.hi ≡ 0) × (p.mi.lo ≡ 0)) × ((p.mn ≡ 0) × ((p.sci ≡ 0) × ((p.accepted ≡ 0) × ((p.proof ≡ 0) × ((p.priority ≡ 0) × ((p.capability ≡ 0) × ((p.server ≡ false) × ((p.desired ≡ false) × (p.proven ≡ false)))))))))
    → p ≡ blank_peer
peer_blank p h = search rules

pub returns : goal.returns
unfolding empty_participant fresh empty_table
returns c =
    let t = c.default.ensures.0 in
    let a = c.default.ensures.1 in
    let b = a.1.1.1.1.1 in
    let d = b.1.1.1.1.1.1.1.1 in
    let peers = all_same blank_peer _ peer_blank _ 16 t.0 in
    let ckn = all_same 0 _ (λ y h. h) _ 32 b.0 in
    let wrapped = all_same 0 _ (λ y h. h) _ 24 d.0 in
    let latest = slot_blank _ d.1.0 in
    let old = slot_blank _ d.1.1 in
    λ i. record {
      table = record { peers = peers i; count = t.1 i };
      clock = a.0 i;
      mi = record { hi = a.1.0.0 i; lo = a.1.0.1 i };
      mn = a.1.1.0 i;
      mark = a.1.1.1.0 i;
      size = a.1.1.1.1.0 i;
      ckn = ckn i;
      priority = b.1.0 i;
      capability = b.1.1.0 i;
      desired = b.1.1.1.0 i;
      sci = b.1.1.1.1.0 i;
      sent = b.1.1.1.1.1.0 i;
      kn = b.1.1.1.1.1.1.0 i;
      distributed = b.1.1.1.1.1.1.1.0 i;
      wrapped = wrapped i;
      latest = latest i;
      old = old i;
    }
