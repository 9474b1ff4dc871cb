-- When an identifier was last proved, by recursion over the history, and that the table says the same.
use Rattle.std.specs.Prelude.{ℕ, ◌≤◌, ◌≡◌, refl, Bool, ◌&&◌, List, []}
use Rattle.std.proofs.Common.{ap, ◌∙◌}
use Rattle.std.proofs.Math.Bool.{cond}
use Rattle.std.specs.Prelude.{Option, None, Some}
use Rattle.base_mi.specs.Mi.{mi_same}
use Rattle.base_mi.specs.declared.Mi.{Mi}
use Rattle.table_expiry.specs.Expiry.{expired}
use Rattle.law_kept.specs.Proved.{proved_at, aged_proof, is_some}
use Rattle.table_lookup.specs.Look.{held_in, live_for}
use Rattle.table_enter.specs.Enter.{entered}
use Rattle.table.specs.Table.{empty_table}
use Rattle.law_lists.proofs.Laws.{by_cases}
use Rattle.law_kept.specs.Same.{same-eq}
use Rattle.table_expiry.proofs.Rules.{kept-rules}
use Rattle.table_expiry.proofs.Aging.{whole-tidy, fresh-now, tidy-expired}
use Rattle.law_kept.proofs.Proving.{live-proved, proof-later, proved-expired, proved-own, proved-other}
use Rattle.participant.specs.Call.{aged_to}
use Rattle.call_new_mi.specs.Renew.{renewed}
use Rattle.call_distribute.specs.Distribute.{with_fresh}
use Rattle.participant.specs.Keys.{with_key}
use Rattle.participant.specs.declared.Participant.{Participant}
use Rattle.participant.specs.First.{NoneHolds}
use Rattle.law_calls.specs.FieldsArgument.{create-empty}
use Rattle.law_calls.specs.Passed.{receive-passed}
use Rattle.call_judge.specs.Judge.{basic_in}
use Rattle.call_accept.specs.Accept.{heard_of}
use Rattle.call_send.specs.Send.{sent_at}
use Rattle.law_history.specs.Calls.{Creation, created, Call, receives, sends, distributes, ticks, renews, reports, asks, saves, after, folded}
use Rattle.law_history.specs.Steps.{facts, becomes, accepted-none}
use Rattle.law_history.proofs.Becomes.{proves, effect, received-table, not-before}
use Rattle.law_history.proofs.Splits.{carry}
use Rattle.law_history.proofs.TableArgument.{Keeps, keeps-becomes, keeps}

-- a frame is of m's and is a proof
abbrev pub proves_of : Participant → Mi → List ℕ → Bool
proves_of p m frame = mi_same m (basic_in frame).mi && proves p frame

-- what an accepted call makes of the time of m's last proof
abbrev pub proof_by : Participant → Mi → Call → Option ℕ → Option ℕ
proof_by p m (receives time verdict frame) x = cond (proves_of p m frame) (Some time) x
proof_by p m (sends time latest_pn old_pn out) x = x
proof_by p m (distributes time wrapped) x = x
proof_by p m (ticks time) x = x
proof_by p m (renews time own) x = None
proof_by p m (reports mi kn transmit) x = x
proof_by p m asks x = x
proof_by p m (saves out) x = x

abbrev pub last_proof : Creation → Mi → List Call → Option ℕ
last_proof k m cs = folded k (λ p. proof_by p m) None cs

-- the table's proof of m, at the clock
abbrev Holds : Participant → Mi → Option ℕ → Type 0
Holds p m x = proved_at (held_in m p.table) ≡ aged_proof p.clock x

empty-proved : (m : Mi) → proved_at (held_in m empty_table) ≡ None
unfolding held_in empty_table
empty-proved m = refl

module _ (p : Participant) (m : Mi) (x : Option ℕ) (k : Keeps p) (e : Holds p m x) where
  holds-aged : (time : ℕ) → p.clock ≤ time → proved_at (held_in m (expired time p.table)) ≡ aged_proof time x
  holds-aged time h = proved-expired m time p.table (kept-rules k).apart (kept-rules k).order ∙ ap (aged_proof time) e ∙ proof-later p.clock time x h

  holds-received : (time : ℕ) (verdict : Bool) (frame : List ℕ) → NoneHolds (facts p (receives time verdict frame))
      → proved_at (held_in m (entered (heard_of (basic_in frame)) (proves p frame) time (expired time p.table))) ≡ aged_proof time (cond (proves_of p m frame) (Some time) x)
  unfolding aged_to heard_of
  holds-received time verdict frame h =
      let t = expired time p.table in
      let heard = heard_of (basic_in frame) in
      let whole = whole-tidy t (tidy-expired time p.table k.tidy) in
      let f = receive-passed p time verdict frame h in
      let aged = holds-aged time f.onward in
      let room = f.room in
      by_cases (mi_same m (basic_in frame).mi)
      (λ s.
      let mi = same-eq m (basic_in frame).mi s in
      let at : proved_at (held_in m (entered heard (proves p frame) time t)) ≡ cond (proves p frame) (Some time) (proved_at (held_in m t)) =
      rw mi (proved-own heard (proves p frame) time t whole room) in
      at ∙ by_cases (proves p frame) (λ b. rw (s, b, fresh-now time)) (λ b. rw (s, b) aged))
      (λ s. proved-other heard (proves p frame) time t whole m s ∙ rw s aged)

holds-becomes : (p : Participant) (m : Mi) (x : Option ℕ) (c : Call) → NoneHolds (facts p c) → Keeps p → Holds p m x → Holds (becomes p c) m (proof_by p m c x)
unfolding sent_at aged_to with_fresh with_key renewed
holds-becomes p m x (receives time verdict frame) h k e =
    rw (received-table p time verdict frame, (effect p (receives time verdict frame)).clock) (holds-received p m x k e time verdict frame h)
holds-becomes p m x (sends time latest_pn old_pn out) h k e = holds-aged p m x k e time (not-before p (sends time latest_pn old_pn out) h)
holds-becomes p m x (distributes time wrapped) h k e = holds-aged p m x k e time (not-before p (distributes time wrapped) h)
holds-becomes p m x (ticks time) h k e = holds-aged p m x k e time (not-before p (ticks time) h)
holds-becomes p m x (renews time own) h k e = empty-proved m
holds-becomes p m x (reports mi kn transmit) h k e = e
holds-becomes p m x asks h k e = e
holds-becomes p m x (saves out) h k e = e

module _ (k : Creation) (m : Mi) where
  holds-start : Holds (created k).participant m None
  unfolding created
  holds-start = rw (create-empty k.time k.mi k.sci k.priority k.capability k.desired k.ckn).0.table (empty-proved m)

  holds : (cs : List Call) → Keeps (after k cs) × Holds (after k cs) m (last_proof k m cs)
  holds cs =
      carry k (λ p. proof_by p m) None (λ p x. Keeps p × Holds p m x) (keeps k [], holds-start)
      (λ p c x e h. let none = accepted-none p c e in (keeps-becomes p c none h.0, holds-becomes p m x c none h.0 h.1)) cs

  -- Live exactly where the last proof is less than a life time old
  pub live-is : (cs : List Call) → live_for (held_in m (after k cs).table) ≡ is_some (aged_proof (after k cs).clock (last_proof k m cs))
  live-is cs = live-proved (held_in m (after k cs).table) ∙ ap is_some (holds cs).1
