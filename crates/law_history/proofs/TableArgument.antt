-- Why: whatever the layers below keep of a table, every accepted call keeps.
use Rattle.std.specs.Prelude.{ℕ, ◌≤◌, ◌≡◌, refl, true, List, [], ◌∷◌, ◌++◌}
use Rattle.std.proofs.Common.{ap, sym, ◌∙◌}
use mathlib.Core.List.Memᴰ
use Rattle.table_expiry.specs.Kept.{Kept, absent, distinct}
use Rattle.table_expiry.specs.Expiry.{expired}
use Rattle.table.specs.declared.Peer.{Peer}
use Rattle.law_lists.proofs.Laws.{first-of, second-of}
use Rattle.table_expiry.proofs.Rules.{kept-rules}
use Rattle.table_expiry.proofs.Aging.{at-most-16, count-tidy}
use Rattle.law_kept.specs.Apart.{absent-clash}
use Rattle.law_kept.specs.Keeping.{kept-empty, kept-expired, kept-entered}
use Rattle.participant.specs.Call.{aged_to}
use Rattle.call_new_mi.specs.Renew.{renewed}
use Rattle.call_distribute.specs.Distribute.{with_fresh}
use Rattle.participant.specs.Keys.{with_key}
use Rattle.participant.specs.declared.Participant.{Participant}
use Rattle.participant.specs.First.{NoneHolds}
use Rattle.law_calls.specs.FieldsArgument.{create-empty}
use Rattle.law_calls.specs.Passed.{receive-passed}
use Rattle.call_judge.specs.Judge.{basic_in}
use Rattle.call_accept.specs.Accept.{heard_of}
use Rattle.call_send.specs.Send.{sent_at}
use Rattle.law_history.specs.Calls.{Creation, created, Call, receives, sends, distributes, ticks, renews, reports, asks, saves, after}
use Rattle.law_history.specs.Steps.{facts, becomes, accepted-none}
use Rattle.law_history.proofs.Becomes.{proves, effect, received-table, not-before}
use Rattle.law_history.proofs.Splits.{always, own}
use Rattle.law_history.specs.Table.{peers_after, NeverOver16, NeverTwice, NeverOurselves}

-- All that the layers below keep of a table, at the participant's clock.
abbrev pub Keeps : Participant → Type 0
Keeps p = Kept p.mi p.clock p.table

keeps-aged : (p : Participant) (time : ℕ) → p.clock ≤ time → Keeps p → Kept p.mi time (expired time p.table)
keeps-aged p time h k = kept-expired p.mi p.clock time p.table h k

pub keeps-becomes : (p : Participant) (c : Call) → NoneHolds (facts p c) → Keeps p → Keeps (becomes p c)
unfolding sent_at aged_to with_fresh with_key renewed heard_of
keeps-becomes p (receives time verdict frame) h k =
    let f = receive-passed p time verdict frame h in
    rw ((effect p (receives time verdict frame)).mi, (effect p (receives time verdict frame)).clock, received-table p time verdict frame)
    (kept-entered p.mi (heard_of (basic_in frame)) (proves p frame) time (expired time p.table) f.other f.above f.room
    (keeps-aged p time f.onward k))
keeps-becomes p (sends time latest_pn old_pn out) h k = keeps-aged p time (not-before p (sends time latest_pn old_pn out) h) k
keeps-becomes p (distributes time wrapped) h k = keeps-aged p time (not-before p (distributes time wrapped) h) k
keeps-becomes p (ticks time) h k = keeps-aged p time (not-before p (ticks time) h) k
keeps-becomes p (renews time m) h k = kept-empty m time
keeps-becomes p (reports m kn transmit) h k = k
keeps-becomes p asks h k = k
keeps-becomes p (saves out) h k = k

keeps-start : (k : Creation) → Keeps (created k).participant
unfolding created
keeps-start k = rw (create-empty k.time k.mi k.sci k.priority k.capability k.desired k.ckn).0.table (kept-empty _ _)

pub keeps : (k : Creation) (cs : List Call) → Keeps (after k cs)
keeps k cs = always k Keeps (keeps-start k) (λ p c e h. keeps-becomes p c (accepted-none p c e) h) cs

-- past an entry its identifier doesn't stand again
past : (a b : List Peer) (x : Peer) → distinct (a ++ (x ∷ b)) ≡ true → absent x.mi b ≡ true
past [] b x d = first-of (absent x.mi b) (distinct b) d
past (y ∷ a) b x d = past a b x (second-of (absent y.mi (a ++ (x ∷ b))) (distinct (a ++ (x ∷ b))) d)

pub never-over-16 : NeverOver16
never-over-16 k ok cs = (count-tidy (after k cs).table (keeps k cs).tidy, at-most-16 (after k cs).table)

pub never-twice : NeverTwice
never-twice k ok cs a b c x y e s =
    let d : distinct (a ++ (x ∷ (b ++ (y ∷ c)))) ≡ true = ap distinct (sym e) ∙ (kept-rules (keeps k cs)).apart in
    absent-clash x.mi (b ++ (y ∷ c)) y (past a (b ++ (y ∷ c)) x d) (Memᴰ.append_right b (Memᴰ.head refl)) s

pub never-ourselves : NeverOurselves
never-ourselves k ok cs x m e = absent-clash (after k cs).mi (peers_after k cs) x (kept-rules (keeps k cs)).others m (own k ok cs ∙ sym e)
