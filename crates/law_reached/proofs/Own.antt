-- Of the own record: "the creating ranges", "zero in each unused place", "times not after the clock", and the widths.
use Rattle.std.specs.Prelude.{ℕ, zero, suc, ◌+◌, ◌^◌, ◌≤◌, ◌<◌, ◌≡◌, Bool, true, false, not, ◌||◌, List, [], ◌∷◌, ◌++◌, length, drop, replicate, eqb, ltb, Ok}
use Rattle.std.proofs.Math.Path.{refl}
use Rattle.std.proofs.Common.{ap, sym, ◌∙◌, arith, drop_at, le-leb, ltb-false, ne_eqb}
use Rattle.std.proofs.Math.Seq.{length-sets}
use Rattle.std.proofs.lemmas.List.Edits.{sets-eq}
use Rattle.base_mi.specs.Fitting.{Fitting}
use Rattle.law_lists.proofs.Laws.{both, or-false}
use Rattle.participant.specs.Call.{aged_to}
use Rattle.call_creation.specs.Create.{bad_start, fresh, empty_participant}
use Rattle.participant.specs.Record.{first32}
use Rattle.call_new_mi.specs.Renew.{renewed}
use Rattle.call_distribute.specs.Distribute.{with_fresh}
use Rattle.participant.specs.Keys.{with_key}
use Rattle.participant.specs.declared.Participant.{Participant}
use Rattle.participant.specs.declared.call.Called.{Called}
use Rattle.participant.specs.First.{NoneHolds}
use Rattle.participant.proofs.Settle.{on-done}
use Rattle.law_calls.specs.Settled.{create-settles}
use Rattle.law_calls.specs.Passed.{send-passed, distribute-passed}
use Rattle.law_calls.specs.NeverArgument.{risen}
use Rattle.call_accept.specs.Accept.{admitted, updated_by}
use Rattle.call_send.specs.Send.{sent_at}
use Rattle.image_rules.specs.Rules.{zeros, unsent_zero, undistributed_zero, unused_zero}
use Rattle.image_rules.specs.Records.{own_good}
use Rattle.law_reread.specs.Fit.{FitOwn}
use Rattle.law_history.specs.Calls.{Creation, created, Call, receives, sends, distributes, ticks, renews, reports, asks, saves, after}
use Rattle.law_history.specs.Steps.{facts, becomes}
use Rattle.law_history.proofs.Becomes.{received-leaves, not-before}
use Rattle.law_history.proofs.Splits.{start}
use Rattle.law_reached.specs.Carried.{Given, Carried}

-- what a creation is judged by, and its CKN in the array of 32
pub record Started (size capability : ℕ) (ckn : List ℕ) : Type 0 where
  pub ranges : bad_start size capability ≡ false
  pub long : length ckn ≡ 32
  pub unused : zeros (drop size ckn) ≡ true

-- "MN 0 means last send 0"
pub record Sending (mn sent clock : ℕ) : Type 0 where
  pub width : mn < 2 ^ 32
  pub unused : unsent_zero mn sent ≡ true
  pub past : sent ≤ clock

-- "KN 0 means distribution and wrapped key 0"
pub record Distributing (kn distributed clock : ℕ) (wrapped : List ℕ) : Type 0 where
  pub width : kn < 2 ^ 32
  pub unused : undistributed_zero kn distributed wrapped ≡ true
  pub past : distributed ≤ clock
  pub long : length wrapped ≡ 24

pub record Own (p : Participant) : Type 0 where
  pub mi : Fitting p.mi
  pub sci : p.sci < 2 ^ 64
  pub clock : p.clock < 2 ^ 64
  pub start : Started p.size p.capability p.ckn
  pub sending : Sending p.mn p.sent p.clock
  pub distributing : Distributing p.kn p.distributed p.clock p.wrapped

-- ---- a creation

zeros-drop : (n k : ℕ) → zeros (drop k (replicate n 0)) ≡ true
zeros-drop zero zero = refl
zeros-drop zero (suc k) = refl
zeros-drop (suc n) zero = zeros-drop n zero
zeros-drop (suc n) (suc k) = zeros-drop n k

-- an array of 32 holds a CKN of at most 32 octets and zeros past it
past-ckn : (ckn : List ℕ) → length ckn ≤ 32 → zeros (drop (length ckn) (first32 ckn)) ≡ true
past-ckn ckn h =
    let fit : 0 + length ckn ≤ 32 = omega arith in
    let e : first32 ckn ≡ ckn ++ drop (0 + length ckn) (replicate 32 0) = sets-eq ckn (replicate 32 0) 0 fit in
    ap (λ (l : List ℕ). zeros (drop (length ckn) l)) e ∙ ap zeros (drop_at ckn _ (length ckn) refl) ∙ zeros-drop 32 (0 + length ckn)

-- no number and no time yet
nothing-sent : (clock : ℕ) → Sending 0 0 clock
nothing-sent clock = record { width = omega arith; unused = refl; past = omega arith }

nothing-distributed : (clock : ℕ) → Distributing 0 0 clock (replicate 24 0)
nothing-distributed clock = record { width = omega arith; unused = refl; past = omega arith; long = refl }

module _ (k : Creation) (ok : (created k).answer ≡ Ok tt) (given : Given k) where
  ranged : bad_start (length k.ckn) k.capability ≡ false
  unfolding created
  ranged =
      let e = create-settles k.time k.mi k.sci k.priority k.capability k.desired k.ckn in
      let p = fresh k.time k.mi k.sci k.priority k.capability k.desired k.ckn in
      (on-done empty_participant p ((15, bad_start (length k.ckn) k.capability) ∷ []) refl (ap (λ (r : Called (Unit {0})). r.answer) (sym e) ∙ ok)).1.0

  short : length k.ckn ≤ 32
  short =
      let n = length k.ckn in
      let size = (or-false (eqb n 0 || ltb 32 n) (eqb k.capability 0 || ltb 3 k.capability) ranged).0 in
      ltb-false 32 n (or-false (eqb n 0) (ltb 32 n) size).1

  pub own-start : Own (after k [])
  unfolding fresh
  own-start =
      rw (start k ok)
      (record {
        mi = given.mi;
        sci = given.sci;
        clock = given.time;
        start = record { ranges = ranged; long = length-sets (replicate 32 0) 0 k.ckn; unused = past-ckn k.ckn short };
        sending = nothing-sent k.time;
        distributing = nothing-distributed k.time;
      })

-- ---- each call

aged : (p : Participant) (time : ℕ) → p.clock ≤ time → time < 2 ^ 64 → Own p → Own (aged_to p time)
unfolding aged_to
aged p time le lt o =
    record {
      mi = o.mi;
      sci = o.sci;
      clock = lt;
      start = o.start;
      sending = record { width = o.sending.width; unused = o.sending.unused; past = omega arith };
      distributing = record {
        width = o.distributing.width;
        unused = o.distributing.unused;
        past = omega arith;
        long = o.distributing.long;
      };
    }

-- nothing of it is a key's or the table's
received : (p : Participant) (time : ℕ) (verdict : Bool) (frame : List ℕ) → Own (aged_to p time) → Own (becomes p (receives time verdict frame))
unfolding updated_by admitted aged_to
received p time verdict frame o =
    rw (received-leaves p time verdict frame)
    (record { mi = o.mi; sci = o.sci; clock = o.clock; start = o.start; sending = o.sending; distributing = o.distributing })

some : (n : ℕ) → eqb (n + 1) 0 ≡ false
some n = ne_eqb (n + 1) 0 (λ e. omega arith)

pub own-becomes : (p : Participant) (c : Call) → NoneHolds (facts p c) → Carried c → Own p → Own (becomes p c)
unfolding sent_at aged_to with_fresh with_key renewed
own-becomes p (receives time verdict frame) h v o =
    received p time verdict frame (aged p time (not-before p (receives time verdict frame) h) v.0 o)
own-becomes p (sends time latest_pn old_pn out) h v o =
    let a = aged p time (not-before p (sends time latest_pn old_pn out) h) v.0 o in
    record {
      mi = o.mi;
      sci = o.sci;
      clock = v.0;
      start = o.start;
      sending = record { width = risen p.mn o.sending.width (send-passed p time latest_pn old_pn (length out) h).mn; unused = rw (some p.mn); past = omega arith };
      distributing = a.distributing;
    }
own-becomes p (distributes time wrapped) h v o =
    let a = aged p time (not-before p (distributes time wrapped) h) v.0 o in
    record {
      mi = o.mi;
      sci = o.sci;
      clock = v.0;
      start = o.start;
      sending = a.sending;
      distributing = record {
        width = risen p.kn o.distributing.width (distribute-passed p time wrapped h).kn;
        unused = rw (some p.kn);
        past = omega arith;
        long = length-sets (replicate 24 0) 0 wrapped;
      };
    }
own-becomes p (ticks time) h v o = aged p time (not-before p (ticks time) h) v o
own-becomes p (renews time m) h v o =
    record {
      mi = v.1;
      sci = o.sci;
      clock = v.0;
      start = o.start;
      sending = nothing-sent time;
      distributing = nothing-distributed time;
    }
own-becomes p (reports m kn transmit) h v o =
    record { mi = o.mi; sci = o.sci; clock = o.clock; start = o.start; sending = o.sending; distributing = o.distributing }
own-becomes p asks h v o = o
own-becomes p (saves out) h v o = o

-- ---- in the words of the image

pub own-fits : (p : Participant) → Own p → FitOwn p
own-fits p o =
    record {
      mi = o.mi;
      mn = o.sending.width;
      sci = o.sci;
      clock = o.clock;
      sent = omega arith;
      kn = o.distributing.width;
      distributed = omega arith;
      ckn = o.start.long;
      wrapped = o.distributing.long;
    }

pub own-good : (p : Participant) → Own p → own_good p ≡ true
unfolding own_good unused_zero
own-good p o =
    both _ _ (ap not o.start.ranges)
    (both _ _ (both _ _ o.sending.unused (both _ _ o.distributing.unused o.start.unused))
    (both _ _ (le-leb p.sent p.clock o.sending.past) (le-leb p.distributed p.clock o.distributing.past)))
