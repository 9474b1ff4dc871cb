-- What is left of a receive once the frame is good, on the table expired to its time.
use Rattle.std.proofs.Common.{ℕ, ◌≡◌, ap, sym, ◌∙◌, List, true, false}
use Rattle.std.specs.Prelude.{Bool, ◌||◌, Option, Ok, Err}
use Rattle.base_facts.specs.declared.Refusal.{Refusal}
use Rattle.base_facts.proofs.Laws.{refusal_numbered}
use Rattle.base_mi.specs.Mi.{mi_same}
use Rattle.frame.specs.declared.Basic.{Basic}
use Rattle.frame_places.specs.declared.Places.{Places}
use Rattle.table_expiry.specs.Expiry.{expired}
use Rattle.table_lookup.specs.Look.{held_in, stale_for, no_room_for, becomes_live}
use Rattle.table_enter.specs.Enter.{entered_at}
use Rattle.table.specs.declared.Table.{Table}
use Rattle.table_lookup.specs.declared.Held.{Held}
use Rattle.participant.specs.Record.{set_mark, set_clock, set_table}
use Rattle.participant.specs.Call.{aged_to, refused_of, settled, settle_to}
use Rattle.participant.specs.declared.Participant.{Participant}
use Rattle.call_judge.specs.Judge.{judged_of}
use Rattle.call_hearing.specs.Proof.{proves_in}
use Rattle.call_hearing.specs.Keys.{keyed_of}
use Rattle.call_accept.specs.Accept.{heard_of, admitted, held_at, accepted_of, updated_by, accepted_by, settled_by}
use Rattle.call_receive.specs.Receive.{table_facts, received_of}
use Rattle.call_receive.proofs.Laws.{judged-good, judged-bad}

module _ (p : Participant) (time : ℕ) (verdict : Bool) (s : List ℕ) where
  -- a frame that is refused by itself
  pub received-refused : (why : Refusal) → judged_of p time verdict s ≡ Err why → received_of p time verdict s ≡ record { participant = p; answer = Err why }
  unfolding received_of
  received-refused why e = let b = judged-bad p time verdict s why e in rw (b.0, b.1, refusal_numbered why)

  module _ (b : Basic) (w : Places) (e : judged_of p time verdict s ≡ Ok (record { basic = b; places = w })) where
    judged : received_of p time verdict s ≡ settle_to p (table_facts p time b) (accepted_of (accepted_by p time s b w))
    unfolding received_of
    judged =
        let g = judged-good p time verdict s (record { basic = b; places = w }) e in
        λ i. settled (g.0 i) p (accepted_of (accepted_by p time s (g.1 i).basic (g.1 i).places))

    -- fact 10
    pub received-own : mi_same p.mi b.mi ≡ true → received_of p time verdict s ≡ refused_of p 10
    unfolding table_facts
    received-own own = judged ∙ rw own

    -- facts 11 and 12 are left where the frame is good and its sender another than we
    pub received-settled : mi_same p.mi b.mi ≡ false → received_of p time verdict s ≡ settled_by p time s b w
    unfolding table_facts settled_by
    received-settled other = judged ∙ rw other

module _ (p : Participant) (time : ℕ) (s : List ℕ) (b : Basic) (w : Places) (t : Table) (held : Option Held)
    (same : t ≡ expired time p.table) (found : held ≡ held_in b.mi t) where
  here : held_at p time b ≡ held
  unfolding aged_to
  here = ap (held_in b.mi) (sym same) ∙ sym found

  full : no_room_for held (aged_to p time).table ≡ no_room_for held t
  unfolding aged_to
  full = ap (no_room_for held) (sym same)

  pub settled-stale : stale_for held b.mn ≡ true → settled_by p time s b w ≡ refused_of p 11
  unfolding settled_by
  settled-stale e = rw (here, e)

  pub settled-full : stale_for held b.mn ≡ false → no_room_for held t ≡ true → settled_by p time s b w ≡ refused_of p 12
  unfolding settled_by
  settled-full e f = rw (here, e, full, f)

  -- the sender in the table, the clock and the mark
  abbrev pub stored : Bool → Participant
  stored proves = set_mark (p.mark || becomes_live held proves) (set_clock time (set_table (entered_at held (heard_of b) proves time t) p))

  updated-stored : updated_by p time s b w ≡ stored (proves_in s w p.mi p.mn)
  unfolding updated_by admitted aged_to
  updated-stored =
      let pr = proves_in s w p.mi p.mn in
      λ i. set_mark (p.mark || becomes_live (here i) pr) (set_clock time (set_table (entered_at (here i) (heard_of b) pr time (sym same i)) p))

  pub settled-good : stale_for held b.mn ≡ false → no_room_for held t ≡ false
      → settled_by p time s b w ≡ accepted_of (keyed_of (stored (proves_in s w p.mi p.mn)) s b.mi w.sak)
  unfolding settled_by accepted_by
  settled-good e f = rw (here, e, full, f) (ap (λ (q : Participant). accepted_of (keyed_of q s b.mi w.sak)) updated-stored)
