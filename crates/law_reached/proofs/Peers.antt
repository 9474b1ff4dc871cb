-- Of the peers' records, past what every table keeps: the widths, and two bits of capability. Each entry comes from a frame.
use Rattle.std.specs.Prelude.{ℕ, ◌^◌, ◌<◌, ◌≡◌, refl, Bool, true, false, List, [], ◌∷◌, Ok}
use Rattle.std.proofs.Common.{◌∙◌, arith}
use borrow.Author.Tests.{lt-ltb}
use Rattle.base_octets.specs.Octets.{Octets}
use Rattle.base_octets.proofs.Laws.{be_at-lt}
use Rattle.base_mi.specs.Mi.{mi_at, mi_same}
use Rattle.base_mi.specs.Fitting.{Fitting}
use Rattle.frame.specs.Basic.{basic_fields}
use Rattle.law_lists.specs.Lists.{every}
use Rattle.table.specs.Table.{blank_peer, entries}
use Rattle.table_expiry.specs.Expiry.{fresh_peer, lapsed, aged_peer, aged_list, expired}
use Rattle.table_enter.specs.Enter.{updated, enter_list, entered}
use Rattle.table_lookup.specs.Look.{held_in, no_room_for}
use Rattle.table_expiry.specs.Kept.{Tidy}
use Rattle.table_enter.specs.declared.Heard.{Heard}
use Rattle.table.specs.declared.Peer.{Peer}
use Rattle.table.specs.declared.Table.{Table}
use Rattle.law_lists.proofs.Laws.{by_cases}
use Rattle.table_expiry.proofs.Aging.{aged-same, whole-tidy, tidy-expired, entries-empty, entries-expired}
use Rattle.law_kept.specs.Entering.{entries-entered}
use Rattle.law_kept.specs.Keeping.{every-aged, every-entered}
use Rattle.participant.specs.Call.{aged_to}
use Rattle.call_creation.specs.Create.{fresh}
use Rattle.call_new_mi.specs.Renew.{renewed}
use Rattle.call_distribute.specs.Distribute.{with_fresh}
use Rattle.participant.specs.Keys.{with_key}
use Rattle.participant.specs.declared.Participant.{Participant}
use Rattle.participant.specs.First.{NoneHolds}
use Rattle.law_calls.specs.Passed.{receive-passed}
use Rattle.call_judge.specs.Judge.{basic_in}
use Rattle.call_accept.specs.Accept.{heard_of}
use Rattle.call_send.specs.Send.{sent_at}
use Rattle.image_rules.specs.Rules.{two_bits}
use Rattle.law_reread.specs.Fit.{FitPeer, FitPeers}
use Rattle.law_history.specs.Calls.{Creation, created, Call, receives, sends, distributes, ticks, renews, reports, asks, saves, after}
use Rattle.law_history.specs.Steps.{facts, becomes}
use Rattle.law_history.proofs.Becomes.{proves, received-table}
use Rattle.law_history.proofs.Splits.{start}
use Rattle.law_history.proofs.TableArgument.{Keeps}
use Rattle.law_reached.specs.Carried.{Carried}

pub record Entries (l : List Peer) : Type 0 where
  pub widths : FitPeers l
  pub capabilities : every two_bits l ≡ true

none_yet : Entries []
none_yet = record { widths = tt; capabilities = refl }

-- ---- expiry

aged-peer : (time : ℕ) (q : Peer) → FitPeer q → FitPeer (aged_peer time q)
aged-peer time q f =
    by_cases (lapsed time q)
    (λ e. rw e (record { mi = f.mi; mn = f.mn; sci = f.sci; accepted = f.accepted; proof = omega arith }))
    (λ e. rw e f)

aged-peers : (time : ℕ) (l : List Peer) → FitPeers l → FitPeers (aged_list time l)
aged-peers time [] f = tt
aged-peers time (q ∷ l) f =
    by_cases (fresh_peer time q)
    (λ e. rw e (aged-peer time q f.0, aged-peers time l f.1))
    (λ e. rw e (aged-peers time l f.1))

aged : (time : ℕ) (t : Table) → Entries (entries t) → Entries (entries (expired time t))
aged time t h =
    rw (entries-expired time t)
    (record {
      widths = aged-peers time (entries t) h.widths;
      capabilities = every-aged two_bits two_bits time (λ q a e. aged-same two_bits time q refl ∙ e) (entries t) h.capabilities;
    })

-- ---- a frame

-- what a frame says of its sender
record Said (h : Heard) : Type 0 where
  mi : Fitting h.mi
  mn : h.mn < 2 ^ 32
  sci : h.sci < 2 ^ 64
  capability : h.capability < 4

pub sender-fits : (frame : List ℕ) → Octets frame → Fitting (basic_in frame).mi
unfolding basic_fields mi_at
sender-fits frame o = record { hi = be_at-lt frame 16 8 o; lo = be_at-lt frame 24 4 o }

said : (frame : List ℕ) → Octets frame → Said (heard_of (basic_in frame))
unfolding heard_of basic_fields
said frame o =
    record {
      mi = sender-fits frame o;
      mn = be_at-lt frame 28 4 o;
      sci = be_at-lt frame 8 8 o;
      capability = omega arith;
    }

module _ (h : Heard) (proves : Bool) (time : ℕ) (s : Said h) (lt : time < 2 ^ 64) where
  updated-peer : (q : Peer) → q.proof < 2 ^ 64 → FitPeer (updated q h proves time)
  unfolding updated
  updated-peer q f = record { mi = s.mi; mn = s.mn; sci = s.sci; accepted = lt; proof = by_cases proves (λ e. rw e lt) (λ e. rw e f) }

  entered-peers : (l : List Peer) → FitPeers l → FitPeers (enter_list h proves time l)
  entered-peers [] f = (updated-peer blank_peer (omega arith), tt)
  entered-peers (q ∷ l) f =
      by_cases (mi_same h.mi q.mi)
      (λ e. rw e (updated-peer q f.0.proof, f.1))
      (λ e. rw e (f.0, entered-peers l f.1))

  entered-bits : (l : List Peer) → every two_bits l ≡ true → every two_bits (enter_list h proves time l) ≡ true
  unfolding updated
  entered-bits l e =
      let two = lt-ltb h.capability 4 s.capability in
      every-entered h proves time two_bits two_bits (λ q t. t) two (λ q t. two) l e

  heard : (t : Table) → Tidy t → no_room_for (held_in h.mi t) t ≡ false → Entries (entries t) → Entries (entries (entered h proves time t))
  heard t tidy room e =
      rw (entries-entered h proves time t room (whole-tidy t tidy))
      (record { widths = entered-peers (entries t) e.widths; capabilities = entered-bits (entries t) e.capabilities })

-- ---- each call

abbrev pub Peers : Participant → Type 0
Peers p = Entries (entries p.table)

pub peers-start : (k : Creation) → (created k).answer ≡ Ok tt → Peers (after k [])
unfolding fresh
peers-start k ok = rw (start k ok, entries-empty) none_yet

pub peers-becomes : (p : Participant) (c : Call) → NoneHolds (facts p c) → Carried c → Keeps p → Peers p → Peers (becomes p c)
unfolding sent_at aged_to with_fresh with_key renewed heard_of
peers-becomes p (receives time verdict frame) h v k e =
    let room = (receive-passed p time verdict frame h).room in
    rw (received-table p time verdict frame)
    (heard (heard_of (basic_in frame)) (proves p frame) time (said frame v.1) v.0 (expired time p.table)
    (tidy-expired time p.table k.tidy) room (aged time p.table e))
peers-becomes p (sends time latest_pn old_pn out) h v k e = aged time p.table e
peers-becomes p (distributes time wrapped) h v k e = aged time p.table e
peers-becomes p (ticks time) h v k e = aged time p.table e
peers-becomes p (renews time m) h v k e = rw entries-empty none_yet
peers-becomes p (reports m kn transmit) h v k e = e
peers-becomes p asks h v k e = e
peers-becomes p (saves out) h v k e = e
