-- What a write's answer tells of the room; what the frame says, by pieces; what a send leaves and sets, by its first fact and by its answer.
use Rattle.std.proofs.Common.{ℕ, ◌+◌, ◌≡◌, refl, ap, ap₂, ◌∙◌, ne_eqb, eqb-true, List, [], ◌∷◌, ◌++◌, length, drop}
use Rattle.std.specs.Prelude.{Bool, true, false, not, ◌&&◌, ltb, eqb, Option, Ok, Err}
use Rattle.std.proofs.lemmas.Bool.{eqb-false}
use Rattle.base_facts.specs.Facts.{first_of}
use Rattle.base_facts.specs.Refusal.{told, number_of}
use Rattle.base_facts.specs.declared.Refusal.{Refusal}
use Rattle.base_facts.specs.declared.Refusal.TheVariants.{NoRoom}
use Rattle.base_octets.specs.Run.{written}
use Rattle.frame_sets.specs.declared.kinds.SakUse.{SakUse}
use Rattle.table.specs.declared.Table.{Table}
use Rattle.table_expiry.specs.Expiry.{expired}
use Rattle.table_counts.specs.Counts.{live_count}
use Rattle.table_election.specs.declared.Rank.{Rank}
use Rattle.table_election.specs.declared.Election.{Election}
use Rattle.table_election.specs.Stand.{stand_of}
use Rattle.law_lists.proofs.Laws.{by_cases, never}
use Rattle.frame_writer.specs.Frame.{wrote_of}
use Rattle.frame_writer.specs.declared.Sender.{Sender}
use Rattle.frame_writer.specs.declared.Sak.{Sak}
use Rattle.call_standing.specs.Standing.{own_rank, server_of, elected_self}
use Rattle.participant.specs.Keys.{of_member}
use Rattle.participant.specs.Call.{aged_to, accepted_of, refused_of}
use Rattle.participant.specs.Record.{set_clock, set_mn, set_sent, set_table}
use Rattle.participant.specs.declared.Participant.{Participant}
use Rattle.participant.specs.declared.call.Called.{Called}
use Rattle.participant.specs.First.{First, NoneHolds}
use Rattle.participant.proofs.Settle.{none-holds}
use Rattle.participant.proofs.Settle as settle
use Rattle.call_send.specs.Message.{server_flag, hands_out, sender_with, sender_of, sak_of, said_if, usage_said, saying, message_of}
use Rattle.call_send.specs.Send.{frame_at, send_facts, sent_at, sent_of, left_by}

short-refused : (t : Bool) (n : ℕ) (why : Refusal) → told (first_of ((13, t) ∷ [])) n ≡ Err why → (t ≡ true) × (NoRoom ≡ why)
short-refused true n why e = (refl, cc)
short-refused false n why e = absurd (cc)

room-octets : (t : Bool) (n k : ℕ) → told (first_of ((13, t) ∷ [])) n ≡ Ok k → (t ≡ false) × (n ≡ k)
room-octets false n k e = (refl, cc)
room-octets true n k e = absurd (cc)

pub wrote-refused : (n room : ℕ) (why : Refusal) → wrote_of n room ≡ Err why → (ltb room n ≡ true) × (NoRoom ≡ why)
wrote-refused n room why e = short-refused (ltb room n) n why e

pub wrote-octets : (n room k : ℕ) → wrote_of n room ≡ Ok k → (ltb room n ≡ false) × (n ≡ k)
wrote-octets n room k e = room-octets (ltb room n) n k e

-- "An accepted call sets the clock", "MN rises by 1", the time of the send is kept, the table is expired; nothing else changes.
pub sent-sets : (p : Participant) (time : ℕ) → sent_at p time ≡ set_table (expired time p.table) (set_sent time (set_mn (p.mn + 1) (set_clock time p)))
unfolding sent_at aged_to
sent-sets p time = refl

-- ---- what the frame says, by pieces

module _ (p : Participant) (time latest_pn old_pn : ℕ) (t : Table) (rank : Rank) (s : Election) (aged : t ≡ expired time p.table) (own : rank ≡ own_rank p) (stood : s ≡ stand_of rank t) where
  asked : s ≡ stand_of (own_rank p) (expired time p.table)
  asked = stood ∙ ap₂ stand_of own aged

  pub counted : s.live ≡ live_count t
  unfolding stand_of
  counted = ap (λ (r : Election). r.live) stood

  pub spoken : (x : Sender) (usage : Option SakUse) (sak : Option Sak)
      → x ≡ sender_with p (not s.theirs) → usage ≡ usage_said p latest_pn old_pn → sak ≡ said_if (of_member p.latest p.mi && (s.ours && not p.mark)) (sak_of p)
      → saying x t usage sak ≡ message_of (aged_to p time) latest_pn old_pn
  unfolding message_of sender_of server_flag hands_out sak_of elected_self server_of aged_to stand_of
  spoken x usage sak ex eu ek =
      let server = ap (λ (r : Election). not r.theirs) asked in
      let ours = ap (λ (r : Election). r.ours) asked in
      let sender = ex ∙ ap (sender_with p) server in
      let out = ek ∙ ap (λ (o : Bool). said_if (of_member p.latest p.mi && (o && not p.mark)) (sak_of p)) ours in
      λ i. saying (sender i) (aged i) (eu i) (out i)

-- ---- what a send leaves and sets

module _ (p : Participant) (time latest_pn old_pn : ℕ) (out : List ℕ) where
  -- "It carries only its number; the participant, its clock included, .. stay unchanged", and so do the lent octets.
  pub send-refused : (first_of (send_facts p time latest_pn old_pn (length out)) ≡ 0 → ⊥)
      → (sent_of p time latest_pn old_pn (length out) ≡ refused_of p (first_of (send_facts p time latest_pn old_pn (length out)))) × (left_by p time latest_pn old_pn out ≡ out)
  unfolding sent_of left_by
  send-refused h = let b = ne_eqb (first_of (send_facts p time latest_pn old_pn (length out))) 0 h in (rw b, rw b)

  -- "Octets of a lent output past what was written stay unchanged."
  pub send-accepted : first_of (send_facts p time latest_pn old_pn (length out)) ≡ 0
      → (sent_of p time latest_pn old_pn (length out) ≡ accepted_of (sent_at p time) (length (frame_at p time latest_pn old_pn)))
      × (left_by p time latest_pn old_pn out ≡ frame_at p time latest_pn old_pn ++ drop (length (frame_at p time latest_pn old_pn)) out)
  unfolding sent_of left_by send_facts written
  send-accepted e = let h = none-holds (send_facts p time latest_pn old_pn (length out)) refl e in (rw e, rw (e, h.1.1.0))

  -- what the answer tells
  pub on-refused : (why : Refusal) → (sent_of p time latest_pn old_pn (length out)).answer ≡ Err why
      → First (send_facts p time latest_pn old_pn (length out)) (number_of why)
      × ((sent_of p time latest_pn old_pn (length out) ≡ record { participant = p; answer = Err why }) × (left_by p time latest_pn old_pn out ≡ out))
  unfolding send_facts sent_of
  on-refused why e =
      let fs = send_facts p time latest_pn old_pn (length out) in
      let r = settle.on-refused-known p (sent_at p time) (length (frame_at p time latest_pn old_pn)) fs refl why e in
      by_cases (eqb (first_of fs) 0)
      (λ b. let s = (send-accepted (eqb-true (first_of fs) 0 b)).0 in never (let z = rw s at e in cc))
      (λ b. (r.1, (r.0, (send-refused (eqb-false (first_of fs) 0 b)).1)))

  pub on-octets : (n : ℕ) → (sent_of p time latest_pn old_pn (length out)).answer ≡ Ok n
      → NoneHolds (send_facts p time latest_pn old_pn (length out))
      × ((n ≡ length (frame_at p time latest_pn old_pn))
      × (((sent_of p time latest_pn old_pn (length out)).participant ≡ set_table (expired time p.table) (set_sent time (set_mn (p.mn + 1) (set_clock time p))))
      × (left_by p time latest_pn old_pn out ≡ frame_at p time latest_pn old_pn ++ drop n out)))
  unfolding send_facts
  on-octets n e =
      let fs = send_facts p time latest_pn old_pn (length out) in
      by_cases (eqb (first_of fs) 0)
      (λ b. let z = eqb-true (first_of fs) 0 b in
      let s = send-accepted z in
      let i : n ≡ length (frame_at p time latest_pn old_pn) = let y = rw s.0 at e in cc in
      (none-holds fs refl z, (i, (ap (λ (r : Called ℕ). r.participant) s.0 ∙ sent-sets p time, rw i s.1))))
      (λ b. let s = (send-refused (eqb-false (first_of fs) 0 b)).0 in never (let z = rw s at e in cc))
