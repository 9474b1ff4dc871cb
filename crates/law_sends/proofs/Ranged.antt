-- The message of a participant whose fields fit is in range.
use Rattle.std.specs.Prelude.{ℕ, ◌^◌, ◌<◌, ◌≡◌, Bool, true, false, cond, ◌&&◌, List, [], ◌∷◌, map, IfSome}
use Rattle.std.proofs.Common.{lit<, refl}
use Rattle.base_mi.specs.Mi.{mi_same}
use Rattle.law_lists.specs.Lists.{those}
use Rattle.law_lists.proofs.Laws.{first-of}
use Rattle.table.specs.Table.{entries}
use Rattle.table_counts.specs.Counts.{entry_of}
use Rattle.table.specs.declared.Peer.{Peer}
use Rattle.table_counts.proofs.Listing.{live-listed, potential-listed}
use Rattle.participant.specs.declared.Slot.{Slot}
use Rattle.participant.specs.declared.Participant.{Participant}
use Rattle.participant.specs.Keys.{of_member}
use Rattle.call_send.specs.Message.{key_use_of, hands_out, sender_of, sak_of, said_if, message_of}
use Rattle.law_round.specs.Ranged.{GoodEntries, GoodKey, GoodUse, GoodSak, Ranged}
use Rattle.law_sends.specs.Sendable.{GoodPeers, GoodSlot, Sendable}

good-those : (f : Peer → Bool) (l : List Peer) → GoodPeers l → GoodEntries (map entry_of (those f l))
good-those f [] g = tt
good-those f (x ∷ xs) g = go (f x) (good-those f xs g.2)
  where
    go : (t : Bool) → GoodEntries (map entry_of (those f xs)) → GoodEntries (map entry_of (cond t (x ∷ those f xs) (those f xs)))
    go true r = (g.0, g.1, r)
    go false r = r

good-use : (s : Slot) (pn : ℕ) → pn < 2 ^ 32 → GoodSlot s → GoodKey (key_use_of s pn)
unfolding key_use_of
good-use s pn h g = go s.held
  where
    go : (t : Bool) → GoodKey (cond t (record { an = s.key.an; transmit = s.key.transmit; receive = s.key.receive; mi = s.key.mi; kn = s.key.kn; pn = pn })
        (record { an = 0; transmit = false; receive = false; mi = record { hi = 0; lo = 0 }; kn = 0; pn = 0 }))
    go true = record { an = g.an; mi = g.mi; kn = g.kn; pn = h }
    go false = record { an = lit< tt; mi = record { hi = lit< tt; lo = lit< tt }; kn = lit< tt; pn = lit< tt }

-- a key is handed out only if it is held
hands-held : (p : Participant) → hands_out p ≡ true → p.latest.held ≡ true
unfolding hands_out of_member
hands-held p e = first-of p.latest.held _ (first-of (p.latest.held && mi_same p.latest.key.mi p.mi) _ e)

-- what a frame has if it has it
if-said : {A : Type 0} (b : Bool) (x : A) (P : A → Type 0) → (b ≡ true → P x) → IfSome (said_if b x) P
if-said true x P h = h refl
if-said false x P h = tt

pub message-ranged : (p : Participant) (latest_pn old_pn : ℕ) → latest_pn < 2 ^ 32 → old_pn < 2 ^ 32 → Sendable p → Ranged (message_of p latest_pn old_pn)
unfolding message_of sender_of sak_of
message-ranged p l o hl ho g =
    record {
      sender = record {
        capability = g.capability;
        sci = g.sci;
        mi = g.mi;
        mn = g.mn;
        some = g.some;
        most = g.most;
        ckn = g.ckn;
      };
      live = rw (live-listed p.table) (good-those _ (entries p.table) g.peers);
      potential = rw (potential-listed p.table) (good-those _ (entries p.table) g.peers);
      usage = if-said p.latest.held _ GoodUse (λ e. record { latest = good-use p.latest l hl g.latest; old = good-use p.old o ho g.old });
      sak = if-said (hands_out p) (sak_of p) GoodSak (λ e. record { an = g.latest.an; confidentiality = g.latest.confidentiality; kn = g.latest.kn; wrapped = g.wrapped });
      numbered = if-said (hands_out p) (sak_of p) (λ k. 0 < k.kn) (λ e. g.latest.some (hands-held p e));
    }
