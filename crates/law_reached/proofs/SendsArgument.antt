-- Why: what every call keeps of a participant is what sending asks of it, and fact 14 leaves its MN a next one.
use Rattle.std.specs.Prelude.{ℕ, ◌+◌, ◌^◌, ◌≤◌, ◌<◌, ◌≡◌, true, ◌||◌, List, [], ◌∷◌, length, drop, eqb, ltb}
use Rattle.std.proofs.Common.{arith, ltb-false, le-ltb}
use Rattle.std.proofs.lemmas.Bool.{eqb-false}
use Rattle.law_lists.proofs.Laws.{by_cases, or-false}
use Rattle.table.specs.Table.{entries}
use Rattle.table.specs.declared.Peer.{Peer}
use Rattle.participant.specs.Call.{aged_to}
use Rattle.participant.specs.Keys.{no_slot}
use Rattle.participant.specs.declared.Slot.{Slot}
use Rattle.participant.specs.declared.Participant.{Participant}
use Rattle.base_mi.specs.declared.Mi.{Mi}
use Rattle.call_send.specs.Send.{frame_at}
use Rattle.call_send.proofs.Laws.{send-accepted}
use Rattle.law_calls.specs.Passed.{send-passed}
use Rattle.law_calls.specs.NeverArgument.{risen}
use Rattle.law_reread.specs.Fit.{FitPeers}
use Rattle.law_sends.specs.Sendable.{GoodPeers, GoodSlot, Sendable}
use Rattle.law_sends.proofs.SentArgument.{sends-read-back}
use Rattle.law_history.specs.Calls.{sends, ticks, after, accepts}
use Rattle.law_history.specs.Steps.{accepted-zero, accepted-none}
use Rattle.law_history.proofs.Splits.{own}
use Rattle.law_history.proofs.FramesArgument.{next-number, identifier-ours}
use Rattle.law_reached.specs.Carried.{Carried}
use Rattle.law_reached.proofs.Throughout.{carried-made}
use Rattle.law_reached.proofs.Own.{Started}
use Rattle.law_reached.proofs.Keys.{Placed}
use Rattle.law_reached.proofs.ReachedArgument.{Parts, becomes-parts, parts}
use Rattle.law_reached.specs.Sends.{ReachedSends}

-- the creating ranges, by number
record Ranges (size capability : ℕ) : Type 0 where
  some : 1 ≤ size
  most : size ≤ 32
  two : capability < 4

ranges : (size capability : ℕ) (ckn : List ℕ) → Started size capability ckn → Ranges size capability
ranges size capability ckn s =
    let both = or-false (eqb size 0 || ltb 32 size) (eqb capability 0 || ltb 3 capability) s.ranges in
    let sizes = or-false (eqb size 0) (ltb 32 size) both.0 in
    let nonzero = eqb-false size 0 sizes.0 in
    record {
      some = omega arith;
      most = ltb-false 32 size sizes.1;
      two = omega (arith, ltb-false 3 capability (or-false (eqb capability 0) (ltb 3 capability) both.1).1);
    }

good-peers : (l : List Peer) → FitPeers l → GoodPeers l
good-peers [] f = tt
good-peers (q ∷ l) f = (f.0.mi, f.0.mn, good-peers l f.1)

-- a slot without a key is blank
good-slot : (own : Mi) (kn : ℕ) (s : Slot) → Placed own kn s → GoodSlot s
unfolding no_slot
good-slot own kn s p =
    record { an = an; confidentiality = confidentiality; mi = p.fit.mi; kn = p.fit.kn; some = λ e. let ne = eqb-false s.key.kn 0 (p.right e).numbered in omega arith }
  where
    an : s.key.an < 4
    an = by_cases s.held (λ e. (p.right e).an) (λ e. rw (p.tidy, e) (omega arith))

    confidentiality : s.key.confidentiality < 4
    confidentiality = by_cases s.held (λ e. (p.right e).confidentiality) (λ e. rw (p.tidy, e) (omega arith))

sendable : (q : Participant) → Parts q → q.mn + 1 < 2 ^ 32 → Sendable q
sendable q s next =
    let r = ranges q.size q.capability q.ckn s.own.start in
    record {
      capability = r.two;
      sci = s.own.sci;
      mi = s.own.mi;
      mn = next;
      some = r.some;
      most = r.most;
      ckn = s.own.start.long;
      wrapped = s.own.distributing.long;
      peers = good-peers (entries q.table) s.peers.widths;
      latest = good-slot q.mi q.kn q.latest s.keys.latest;
      old = good-slot q.mi q.kn q.old s.keys.old;
    }

-- at the call's time, by the same table that a tick would make
module _ (p : Participant) (time latest_pn old_pn : ℕ) (out : List ℕ) (e : accepts p (sends time latest_pn old_pn out) ≡ true) (v : Carried (sends time latest_pn old_pn out)) (s : Parts p) where
  sends-then : Sendable (aged_to p time)
  unfolding aged_to
  sends-then =
      let f = send-passed p time latest_pn old_pn (length out) (accepted-none p (sends time latest_pn old_pn out) e) in
      sendable (aged_to p time) (becomes-parts p (ticks time) (le-ltb time p.clock f.onward, tt) v.0 s) (risen p.mn s.own.sending.width f.mn)

pub reached-sends : ReachedSends
reached-sends k ok given cs carried time latest_pn old_pn out made =
    let p = after k made.earlier in
    let c = sends time latest_pn old_pn out in
    let v = carried-made k cs c made carried in
    let s = parts k ok given made.earlier v.1 in
    let left = (send-accepted p time latest_pn old_pn out (accepted-zero p c made.done)).1 in
    record {
      identified = identifier-ours k ok cs time latest_pn old_pn out made (rw (own k ok made.earlier) at s.own.mi);
      numbered = next-number k cs time latest_pn old_pn out made;
      tells = rw left
          (sends-read-back p time latest_pn old_pn (drop (length (frame_at p time latest_pn old_pn)) out) v.0.1 v.0.2 (sends-then p time latest_pn old_pn out made.done v.0 s));
    }
