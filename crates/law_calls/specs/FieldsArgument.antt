-- Why: by the definition of each call, a refusal leaving all.
use Rattle.std.specs.Prelude.{ℕ, ◌≡◌, refl, Bool, true, List, [], ◌∷◌, length}
use Rattle.std.proofs.Common.{ap, arith}
use Rattle.law_lists.proofs.Laws.{by_cases}
use Rattle.participant.specs.declared.Participant.{Participant}
use Rattle.participant.specs.declared.call.Called.{Called}
use Rattle.participant.specs.Record.{first24, set_mi, set_mn, set_mark, set_clock, set_sent, set_kn, set_distributed, set_wrapped, set_table, set_latest, set_old}
use Rattle.participant.specs.Call.{done_of, settle, fact1, aged_to}
use Rattle.call_tick.specs.Tick.{ticked}
use Rattle.call_creation.specs.Create.{bad_start, fresh, empty_participant, created_of}
use Rattle.participant.specs.Keys.{no_slot, with_key}
use Rattle.call_new_mi.specs.Renew.{renewed, new_mi_facts, new_mi_of}
use Rattle.call_report.specs.Report.{installed, report_facts, reported}
use Rattle.call_distribute.specs.Distribute.{next_an, fresh_key, with_fresh, distribute_facts, distributed_of}
use Rattle.participant.specs.First.{numbered}
use Rattle.participant.proofs.Settle.{settle-cases}
use Rattle.law_calls.specs.Settled.{distribute-settles, new-mi-settles, report-settles, accepted-settled}
use Rattle.law_calls.specs.Fields.{set_flags, Handed, Empty, TickLeaves, ReportLeaves, NewMiLeaves, DistributeLeaves, DistributeHands, AnBelow, FreshEmpty, CreateEmpty, NewMiEmpties, ReportSets}

-- what a call leaves alone is left alone by what it becomes and by a refusal
either : (leaves : Participant → Type 0) (p q : Participant) (fs : List (ℕ × Bool)) → numbered fs ≡ true → leaves p → leaves q → leaves (settle p fs q).participant
either leaves p q fs k before after = settle-cases p (done_of q) fs k (λ e h. rw e after) (λ n e h. rw e before)

pub tick-leaves : TickLeaves
unfolding ticked aged_to
tick-leaves p time = either (λ q. q ≡ set_clock q.clock (set_table q.table p)) p (aged_to p time) ((1, fact1 p time) ∷ []) refl refl refl

pub report-leaves : ReportLeaves
unfolding reported installed
report-leaves p m kn transmit =
    either (λ q. q ≡ set_latest (set_flags q.latest.key.receive q.latest.key.transmit p.latest) p) p (set_latest (installed p.latest transmit) p) (report_facts p m kn transmit) refl refl refl

pub new-mi-leaves : NewMiLeaves
unfolding new_mi_of renewed
new-mi-leaves p time m =
    either
    (λ q. q ≡ set_table q.table (set_mn q.mn (set_kn q.kn (set_mark q.mark (set_wrapped q.wrapped (set_sent q.sent (set_distributed q.distributed (set_mi q.mi (set_clock q.clock p)))))))))
    p (renewed p time m) (new_mi_facts p time m) refl refl refl

pub distribute-leaves : DistributeLeaves
unfolding distributed_of with_fresh with_key aged_to
distribute-leaves p time w =
    either
    (λ q. q ≡ set_kn q.kn (set_mark q.mark (set_distributed q.distributed (set_wrapped q.wrapped (set_latest q.latest (set_old q.old (set_clock q.clock (set_table q.table p))))))))
    p (with_fresh (aged_to p time) (first24 w)) (distribute_facts p time w) refl refl refl

handed-fresh : (p : Participant) (time : ℕ) (w : List ℕ) → Handed p time w (with_fresh (aged_to p time) (first24 w))
unfolding with_fresh with_key fresh_key aged_to
handed-fresh p time w = record { kn = refl; mark = refl; distributed = refl; wrapped = refl; table = refl; latest = refl; old = refl }

pub distribute-hands : DistributeHands
distribute-hands p time w d =
    rw (accepted-settled p (with_fresh (aged_to p time) (first24 w)) (distribute_facts p time w) _ (distribute-settles p time w) refl d).0 (handed-fresh p time w)

pub an-below : AnBelow
unfolding next_an
an-below s = by_cases s.held (λ b. rw b (omega arith)) (λ b. rw b (omega arith))

pub fresh-empty : FreshEmpty
unfolding fresh
fresh-empty time mi sci priority capability desired ckn = record { mn = refl; kn = refl; mark = refl; sent = refl; distributed = refl; wrapped = refl; table = refl }

pub create-empty : CreateEmpty
unfolding created_of empty_participant fresh
create-empty time mi sci priority capability desired ckn =
    either (λ q. Empty q × ((q.latest ≡ no_slot) × (q.old ≡ no_slot))) empty_participant (fresh time mi sci priority capability desired ckn) ((15, bad_start (length ckn) capability) ∷ []) refl
    (fresh-empty _ _ _ _ _ _ [], (refl, refl)) (fresh-empty _ _ _ _ _ _ ckn, (refl, refl))

pub new-mi-empties : NewMiEmpties
unfolding renewed
new-mi-empties p time m d =
    rw (accepted-settled p (renewed p time m) (new_mi_facts p time m) _ (new-mi-settles p time m) refl d).0
    (record { mn = refl; kn = refl; mark = refl; sent = refl; distributed = refl; wrapped = refl; table = refl }, refl)

pub report-sets : ReportSets
report-sets p m kn transmit d =
    let s = accepted-settled p (set_latest (installed p.latest transmit) p) (report_facts p m kn transmit) _ (report-settles p m kn transmit) refl d in
    (s.1.0, ap (λ (r : Called (Unit {0})). r.participant.latest) s.0)
