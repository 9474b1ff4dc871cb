-- Of the keys' records: "AN and confidentiality under 4; transmit only with receive", "keys distinct, KN not 0, nor above ours under our MI".
use Rattle.std.specs.Prelude.{ℕ, ◌+◌, ◌^◌, ◌≤◌, ◌<◌, ◌≡◌, refl, Bool, true, false, cond, not, ◌&&◌, ◌||◌, List, [], eqb, Ok, Some}
use Rattle.std.proofs.Common.{ap, sym, ◌∙◌, arith, le-leb, lt-ltb, eqb-true, ne_eqb}
use Rattle.std.proofs.lemmas.Bool.{not-false}
use Rattle.base_octets.specs.Octets.{Octets}
use Rattle.base_mi.specs.Mi.{mi_same}
use Rattle.base_mi.specs.declared.Mi.{Mi}
use Rattle.base_mi.specs.Fitting.{Fitting}
use Rattle.law_lists.proofs.Laws.{by_cases, clash, both, first-of, second-of, or-false}
use Rattle.law_kept.specs.Same.{same-eq, same_refl, same-sym}
use Rattle.participant.specs.Call.{aged_to}
use Rattle.call_creation.specs.Create.{fresh}
use Rattle.call_new_mi.specs.Renew.{in_use, renewed}
use Rattle.call_report.specs.Report.{misreported, installed}
use Rattle.call_distribute.specs.Distribute.{confidentiality_of, fresh_key, with_fresh}
use Rattle.participant.specs.Keys.{no_slot, slot_of, of_member, is_key, with_key, without_keys}
use Rattle.participant.specs.declared.Key.{Key}
use Rattle.participant.specs.declared.Slot.{Slot}
use Rattle.participant.specs.declared.Participant.{Participant}
use Rattle.participant.specs.First.{NoneHolds}
use Rattle.law_calls.specs.FieldsArgument.{an-below}
use Rattle.law_calls.specs.Passed.{receive-passed, distribute-passed, renew-passed}
use Rattle.law_calls.specs.NeverArgument.{risen}
use Rattle.call_judge.specs.Judge.{basic_in}
use Rattle.call_hearing.specs.Keys.{is_known, key_from, keyed_of}
use Rattle.call_accept.specs.Accept.{admitted, updated_by, accepted_by}
use Rattle.call_send.specs.Send.{sent_at}
use Rattle.table_expiry.specs.Kept.{only}
use Rattle.image_rules.specs.Rules.{use_good}
use Rattle.image_rules.specs.Records.{key_good, slot_good, keys_good}
use Rattle.law_reread.specs.Fit.{FitKey}
use Rattle.law_saved.specs.WellFormed.{TidySlot}
use Rattle.law_history.specs.Calls.{Creation, created, Call, receives, sends, distributes, ticks, renews, reports, asks, saves, after}
use Rattle.law_history.specs.Steps.{facts, becomes}
use Rattle.law_history.proofs.Becomes.{updated_in, by-keyed}
use Rattle.law_history.proofs.Splits.{start}
use Rattle.law_history.specs.Keys.{sak_spot, sak_read}
use Rattle.law_reached.specs.Carried.{Carried}
use Rattle.law_reached.proofs.Own.{Own}
use Rattle.law_reached.proofs.Peers.{sender-fits}
use Rattle.frame_places.specs.declared.Spot.{Spot}
use Rattle.law_reached.proofs.Sak.{Carries, handed_out}

-- a key on record, where ours are the MI `own` and the KN `kn`
pub record OnRecord (own : Mi) (kn : ℕ) (k : Key) : Type 0 where
  pub an : k.an < 4
  pub confidentiality : k.confidentiality < 4
  pub used : use_good k ≡ true
  pub numbered : eqb k.kn 0 ≡ false
  pub ours : mi_same own k.mi ≡ true → k.kn ≤ kn

pub record Placed (own : Mi) (kn : ℕ) (s : Slot) : Type 0 where
  pub fit : FitKey s.key
  pub tidy : TidySlot s
  pub right : s.held ≡ true → OnRecord own kn s.key

-- the latest slot and the old one
pub record Keys (own : Mi) (kn : ℕ) (a b : Slot) : Type 0 where
  pub latest : Placed own kn a
  pub old : Placed own kn b
  pub order : only b.held a.held ≡ true
  pub apart : (a.held && is_key b a.key.mi a.key.kn) ≡ false

-- ---- no key, and one key more

no_key : (own : Mi) (kn : ℕ) → Placed own kn no_slot
unfolding no_slot
no_key own kn =
    record {
      fit = record { mi = record { hi = omega arith; lo = omega arith }; kn = omega arith; suite = omega arith };
      tidy = refl;
      right = λ e. clash e;
    }

no_keys : (own : Mi) (kn : ℕ) → Keys own kn no_slot no_slot
unfolding no_slot
no_keys own kn = record { latest = no_key own kn; old = no_key own kn; order = refl; apart = refl }

one_more : (own : Mi) (kn : ℕ) (k : Key) (s : Slot) → FitKey k → OnRecord own kn k → is_key s k.mi k.kn ≡ false → Placed own kn s → Keys own kn (slot_of k) s
one_more own kn k s fit right new p =
    record {
      latest = record { fit = fit; tidy = refl; right = λ e. right };
      old = p;
      order = by_cases s.held (λ e. rw e) (λ e. rw e);
      apart = new;
    }

-- ---- our KN rises, and our MI is another

rises : (own : Mi) (kn : ℕ) (s : Slot) → Placed own kn s → Placed own (kn + 1) s
rises own kn s p =
    record {
      fit = p.fit;
      tidy = p.tidy;
      right = λ e.
          let r = p.right e in
          record {
            an = r.an;
            confidentiality = r.confidentiality;
            used = r.used;
            numbered = r.numbered;
            ours = λ m. omega (arith, r.ours m);
          };
    }

-- fact 19: no key is of the new MI
renamed : (own m : Mi) (kn : ℕ) (s : Slot) → of_member s m ≡ false → Placed own kn s → Placed m 0 s
unfolding of_member
renamed own m kn s other p =
    record {
      fit = p.fit;
      tidy = p.tidy;
      right = λ e.
          let r = p.right e in
          record {
            an = r.an;
            confidentiality = r.confidentiality;
            used = r.used;
            numbered = r.numbered;
            ours = λ i. clash (sym (same-sym s.key.mi m (rw e at other)) ∙ i);
          };
    }

-- ---- our key: KN + 1 is above every key's under our MI

not-above : (own : Mi) (kn : ℕ) (s : Slot) → Placed own kn s → is_key s own (kn + 1) ≡ false
unfolding is_key of_member
not-above own kn s p =
    by_cases (is_key s own (kn + 1))
    (λ e.
    let member : (s.held && mi_same s.key.mi own) ≡ true = first-of _ (eqb s.key.kn (kn + 1)) e in
    let same = same-eq s.key.mi own (second-of s.held _ member) in
    let n = eqb-true s.key.kn (kn + 1) (second-of (s.held && mi_same s.key.mi own) _ e) in
    let le = (p.right (first-of s.held _ member)).ours (ap (mi_same own) same ∙ same_refl own) in
    absurd (omega arith))
    (λ e. e)

fresh-fits : (q : Participant) → Fitting q.mi → q.kn + 1 < 2 ^ 32 → FitKey (fresh_key q)
unfolding fresh_key
fresh-fits q f h = record { mi = f; kn = h; suite = omega arith }

fresh-right : (q : Participant) → OnRecord q.mi (q.kn + 1) (fresh_key q)
unfolding fresh_key confidentiality_of
fresh-right q =
    record {
      an = an-below q.latest;
      confidentiality = by_cases (eqb q.capability 1) (λ e. rw e (omega arith)) (λ e. rw e (omega arith));
      used = refl;
      numbered = ne_eqb (q.kn + 1) 0 (λ e. omega arith);
      ours = λ e. omega arith;
    }

distributed : (q : Participant) → Own q → eqb q.kn 4294967295 ≡ false → Keys q.mi q.kn q.latest q.old → Keys q.mi (q.kn + 1) (slot_of (fresh_key q)) q.latest
unfolding fresh_key
distributed q o f14 k =
    one_more q.mi (q.kn + 1) (fresh_key q) q.latest (fresh-fits q o.mi (risen q.kn o.distributing.width f14)) (fresh-right q)
    (not-above q.mi q.kn q.latest k.latest) (rises q.mi q.kn q.latest k.latest)

-- ---- a peer's key

-- a Distributed SAK that isn't ignored is of a key that is not known
module _ (q : Participant) (s : List ℕ) (m : Mi) where
  unknown {ℓ} : {C : Type ℓ}
      → ((keyed_of q s m (sak_spot s)).participant ≡ q → C)
      → ((keyed_of q s m (sak_spot s)).participant ≡ without_keys q → C)
      → ((spot : Spot) → sak_spot s ≡ Some spot → eqb spot.len 0 ≡ false → is_known q m (sak_read s spot).kn ≡ false → (keyed_of q s m (sak_spot s)).participant ≡ with_key q (key_from m (sak_read s spot)) → C)
      → C
  unfolding keyed_of
  unknown same dropped entered =
      by-keyed q s m (sak_spot s) same dropped
      (λ spot a b d x. by_cases (is_known q m (sak_read s spot).kn) (λ e. same (rw (a, b, d, e))) (λ e. entered spot a d e x))

theirs-fits : (frame : List ℕ) (spot : Spot) → Octets frame → Carries frame spot → FitKey (key_from (basic_in frame).mi (sak_read frame spot))
unfolding key_from
theirs-fits frame spot o h = record { mi = sender-fits frame o; kn = h.width; suite = h.suite }

theirs-right : (own : Mi) (kn : ℕ) (frame : List ℕ) (spot : Spot) → mi_same own (basic_in frame).mi ≡ false → Carries frame spot → OnRecord own kn (key_from (basic_in frame).mi (sak_read frame spot))
unfolding key_from
theirs-right own kn frame spot other h =
    record {
      an = h.an;
      confidentiality = h.confidentiality;
      used = refl;
      numbered = h.kn;
      ours = λ e. clash (sym other ∙ e);
    }

received : (p : Participant) (time : ℕ) (verdict : Bool) (frame : List ℕ) → mi_same p.mi (basic_in frame).mi ≡ false → Octets frame
    → Keys p.mi p.kn p.latest p.old
    → let q = becomes p (receives time verdict frame) in Keys q.mi q.kn q.latest q.old
unfolding accepted_by updated_by admitted aged_to with_key without_keys is_known key_from
received p time verdict frame other o k =
    let m = (basic_in frame).mi in
    unknown (updated_in p time frame) frame m
    (λ x. rw x k)
    (λ x. rw x (no_keys p.mi p.kn))
    (λ spot a d n x.
    let h = handed_out frame spot o a d in
    rw x
    (one_more p.mi p.kn (key_from m (sak_read frame spot)) p.latest (theirs-fits frame spot o h) (theirs-right p.mi p.kn frame spot other h)
    (or-false (is_key p.latest m (sak_read frame spot).kn) _ n).0 k.latest))

-- ---- a report

-- fact 18: the latest is held, and transmit comes with receive
reported : (own : Mi) (kn : ℕ) (latest old : Slot) (m : Mi) (n : ℕ) (transmit : Bool) → misreported latest m n transmit ≡ false
    → Keys own kn latest old → Keys own kn (installed latest transmit) old
unfolding misreported installed is_key of_member
reported own kn latest old m n transmit f18 k =
    let f = or-false (not (is_key latest m n)) (transmit && not latest.key.receive) f18 in
    let named = not-false (is_key latest m n) f.0 in
    let held : latest.held ≡ true = first-of latest.held _ (first-of (latest.held && mi_same latest.key.mi m) _ named) in
    let r = k.latest.right held in
    record {
      latest = record {
        fit = record { mi = k.latest.fit.mi; kn = k.latest.fit.kn; suite = k.latest.fit.suite };
        tidy = rw held;
        right = λ e. record { an = r.an; confidentiality = r.confidentiality; used = used f.1; numbered = r.numbered; ours = r.ours };
      };
      old = k.old;
      order = k.order;
      apart = k.apart;
    }
  where
    used : (transmit && not latest.key.receive) ≡ false → only (cond transmit true latest.key.transmit) (cond transmit latest.key.receive true) ≡ true
    used f =
        by_cases transmit
        (λ e. rw e (not-false latest.key.receive (rw e at f)))
        (λ e. rw e (by_cases latest.key.transmit (λ t. rw t) (λ t. rw t)))

-- ---- each call

abbrev pub KeysOf : Participant → Type 0
KeysOf p = Keys p.mi p.kn p.latest p.old

pub keys-start : (k : Creation) → (created k).answer ≡ Ok tt → KeysOf (after k [])
unfolding fresh
keys-start k ok = rw (start k ok) (no_keys k.mi 0)

pub keys-becomes : (p : Participant) (c : Call) → NoneHolds (facts p c) → Carried c → Own p → KeysOf p → KeysOf (becomes p c)
unfolding sent_at aged_to with_fresh with_key fresh_key renewed in_use
keys-becomes p (receives time verdict frame) h v o k = received p time verdict frame (receive-passed p time verdict frame h).other v.1 k
keys-becomes p (sends time latest_pn old_pn out) h v o k = k
keys-becomes p (distributes time wrapped) h v o k = distributed p o (distribute-passed p time wrapped h).kn k
keys-becomes p (ticks time) h v o k = k
keys-becomes p (renews time m) h v o k =
    let f19 = (or-false (mi_same p.mi m) (of_member p.latest m || of_member p.old m) (renew-passed p time m h).unused).1 in
    let f = or-false (of_member p.latest m) (of_member p.old m) f19 in
    record {
      latest = renamed p.mi m p.kn p.latest f.0 k.latest;
      old = renamed p.mi m p.kn p.old f.1 k.old;
      order = k.order;
      apart = k.apart;
    }
keys-becomes p (reports m kn transmit) h v o k = reported p.mi p.kn p.latest p.old m kn transmit h.0 k
keys-becomes p asks h v o k = k
keys-becomes p (saves out) h v o k = k

-- ---- in the words of the image

key-good : (own : Mi) (kn : ℕ) (k : Key) → OnRecord own kn k → key_good own kn k ≡ true
unfolding key_good
key-good own kn k r =
    both _ _ (lt-ltb k.an 4 r.an)
    (both _ _ (lt-ltb k.confidentiality 4 r.confidentiality)
    (both _ _ r.used
    (both _ _ (ap not r.numbered) (by_cases (mi_same own k.mi) (λ e. rw e (le-leb k.kn kn (r.ours e))) (λ e. rw e)))))

slot-good : (own : Mi) (kn : ℕ) (s : Slot) → Placed own kn s → slot_good own kn s ≡ true
unfolding slot_good
slot-good own kn s p = by_cases s.held (λ e. rw e (key-good own kn s.key (p.right e))) (λ e. rw e)

pub keys-good : (p : Participant) → KeysOf p → keys_good p ≡ true
unfolding keys_good
keys-good p k =
    both _ _ (slot-good p.mi p.kn p.latest k.latest) (both _ _ (slot-good p.mi p.kn p.old k.old) (ap not k.apart))
