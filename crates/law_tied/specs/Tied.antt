-- From contract to history: whatever a call's contract allows is what a history plays of that call: participant, answer and lent
-- octets. And what is read of a frame or an image, and shown of one, is what the theorems about octets speak of.
use Rattle.std.specs.Prelude.{ℕ, ◌≡◌, List}
use Rattle.std.proofs.Common.{ap, ap₂}
use contract.Lifetimes.{Lfts}
use denote.Triple.Clauses.{AtExit}
use borrow.Fn.Kinds.{ParamKind, ResultKind, Out, Dens, res_t, ended_of}
use Rattle.participant.specs.declared.Participant.{Participant}
use Rattle.frame.proofs as frame
use Rattle.frame.specs.Basic.{basic_of}
use Rattle.frame_walk.proofs as frame_walk
use Rattle.frame_walk.specs.Walk.{walk_of}
use Rattle.call_creation.proofs as call_creation
use Rattle.call_tick.proofs as call_tick
use Rattle.call_new_mi.proofs as call_new_mi
use Rattle.call_report.proofs as call_report
use Rattle.call_questions.proofs as call_questions
use Rattle.call_questions.specs.Ask.{asked_server, asked_elected, asked_fresh, hello_due, asked_live, asked_potential, asked_lives, asked_potentials}
use Rattle.call_distribute.proofs as call_distribute
use Rattle.call_receive.proofs as call_receive
use Rattle.call_send.proofs as call_send
use Rattle.image.proofs as image
use Rattle.image_reading.proofs as image_reading
use Rattle.image_reading.specs.Read.{read_of}
use Rattle.page_shown.proofs as page_shown
use Rattle.page_shown.specs.Show.{shown_of}
use Rattle.law_history.specs.Calls.{Call, receives, sends, distributes, ticks, renews, reports, saves, Answer, to_receive, to_send, to_call, to_save, created, answered, answer_of}

-- What a history has of a call on a participant.
abbrev pub in_history : Participant × Call → Participant × Answer
in_history (p, c) = (answered p c, answer_of p c)

-- A function's contract as its callers learn it: of the arguments a, the answer z, and e, what the parameters are at the exit.
module _ {n : ℕ} (ps : List (ParamKind n)) (r : ResultKind n) (Says : Out n ps r) where
  -- It plays a call: its arguments are a participant and a call on it, its answer a participant and an answer to that call.
  module _ (call : (κs : Lfts n) → Dens κs ps → Participant × Call) (gives : (κs : Lfts n) → Dens κs ps → (res_t r κs).Denot → AtExit (ended_of n ps r) κs → Participant × Answer) where
    abbrev pub Plays : Type 0
    Plays = (κs : Lfts n) (a : Dens κs ps) (z : (res_t r κs).Denot) (e : AtExit (ended_of n ps r) κs) → Says κs a z e → gives κs a z e ≡ in_history (call κs a)

  -- It answers what a definition makes of its arguments.
  module _ (made : (κs : Lfts n) → Dens κs ps → (res_t r κs).Denot) where
    abbrev pub Answers : Type 0
    Answers = (κs : Lfts n) (a : Dens κs ps) (z : (res_t r κs).Denot) (e : AtExit (ended_of n ps r) κs) → Says κs a z e → z ≡ made κs a

pub receive : Plays call_receive.receive.Kinds.ps call_receive.receive.Kinds.r call_receive.receive.Reads.Learnt
    (λ κs (p, (time, (verdict, (frame, _)))). (p, receives time verdict frame.now))
    (λ κs a z e. (z.participant, to_receive z.answer))
receive κs a z e h = ap (λ r. (r.participant, to_receive r.answer)) h

pub send : Plays call_send.send.Kinds.ps call_send.send.Kinds.r call_send.send.Reads.Learnt
    (λ κs (p, (time, (latest_pn, (old_pn, (out, _))))). (p, sends time latest_pn old_pn out.now))
    (λ κs a z (_, (_, (_, (_, (left, _))))). (z.participant, to_send z.answer left.now))
send κs a z e h = ap₂ (λ r left. (r.participant, to_send r.answer left)) h.0 h.1

pub distribute : Plays call_distribute.distribute.Kinds.ps call_distribute.distribute.Kinds.r call_distribute.distribute.Reads.Learnt
    (λ κs (p, (time, (wrapped, _))). (p, distributes time wrapped.now))
    (λ κs a z e. (z.participant, to_call z.answer))
distribute κs a z e h = ap (λ r. (r.participant, to_call r.answer)) h

pub tick : Plays call_tick.tick.Kinds.ps call_tick.tick.Kinds.r call_tick.tick.Reads.Learnt
    (λ κs (p, (time, _)). (p, ticks time))
    (λ κs a z e. (z.participant, to_call z.answer))
tick κs a z e h = ap (λ r. (r.participant, to_call r.answer)) h

pub new-mi : Plays call_new_mi.new_mi.Kinds.ps call_new_mi.new_mi.Kinds.r call_new_mi.new_mi.Reads.Learnt
    (λ κs (p, (time, (m, _))). (p, renews time m))
    (λ κs a z e. (z.participant, to_call z.answer))
new-mi κs a z e h = ap (λ r. (r.participant, to_call r.answer)) h

pub report : Plays call_report.report.Kinds.ps call_report.report.Kinds.r call_report.report.Reads.Learnt
    (λ κs (p, (m, (kn, (transmit, _)))). (p, reports m kn transmit))
    (λ κs a z e. (z.participant, to_call z.answer))
report κs a z e h = ap (λ r. (r.participant, to_call r.answer)) h

-- a save: the participant stays with the one who asks for it
pub write : Plays image.write.Kinds.ps image.write.Kinds.r image.write.Reads.Learnt
    (λ κs (out, (p, _)). (p, saves out.now))
    (λ κs (out, (p, _)) z (left, _). (p, to_save z left.now))
write κs a z e h = ap₂ (λ r left. (a.1.0, to_save r left)) h.0 h.1

pub create : Answers call_creation.create.Kinds.ps call_creation.create.Kinds.r call_creation.create.Reads.Learnt
    (λ κs (time, (mi, (sci, (priority, (capability, (desired, (ckn, _))))))). created record {
      time = time;
      mi = mi;
      sci = sci;
      priority = priority;
      capability = capability;
      desired = desired;
      ckn = ckn.now;
    })
unfolding created
create κs a z e h = h

pub read-basic : Answers frame.read_basic.Kinds.ps frame.read_basic.Kinds.r frame.read_basic.Reads.Learnt (λ κs (frame, _). basic_of frame.now)
read-basic κs a z e h = h

pub walk : Answers frame_walk.walk.Kinds.ps frame_walk.walk.Kinds.r frame_walk.walk.Reads.Learnt (λ κs (frame, (at, (stop, _))). walk_of frame.now at stop)
walk κs a z e h = h

pub read : Answers image_reading.read.Kinds.ps image_reading.read.Kinds.r image_reading.read.Reads.Learnt (λ κs (image, _). read_of image.now)
read κs a z e h = h

pub show : Answers page_shown.show.Kinds.ps page_shown.show.Kinds.r page_shown.show.Reads.Learnt (λ κs (image, _). shown_of image.now)
show κs a z e h = h

-- The questions, of the participant that `asks` shows; `Asked` of law_history says what they are of one that calls reached.
pub server : Answers call_questions.server.Kinds.ps call_questions.server.Kinds.r call_questions.server.Reads.Learnt (λ κs (p, _). asked_server p)
server κs a z e h = h

pub elected-self : Answers call_questions.elected_self.Kinds.ps call_questions.elected_self.Kinds.r call_questions.elected_self.Reads.Learnt (λ κs (p, _). asked_elected p)
elected-self κs a z e h = h

pub fresh-due : Answers call_questions.fresh_due.Kinds.ps call_questions.fresh_due.Kinds.r call_questions.fresh_due.Reads.Learnt (λ κs (p, _). asked_fresh p)
fresh-due κs a z e h = h

pub hello-due : Answers call_questions.hello_due.Kinds.ps call_questions.hello_due.Kinds.r call_questions.hello_due.Reads.Learnt (λ κs (p, _). hello_due p)
hello-due κs a z e h = h

pub is-live : Answers call_questions.is_live.Kinds.ps call_questions.is_live.Kinds.r call_questions.is_live.Reads.Learnt (λ κs (p, (m, _)). asked_live p m)
is-live κs a z e h = h

pub is-potential : Answers call_questions.is_potential.Kinds.ps call_questions.is_potential.Kinds.r call_questions.is_potential.Reads.Learnt (λ κs (p, (m, _)). asked_potential p m)
is-potential κs a z e h = h

pub live-count : Answers call_questions.live_count.Kinds.ps call_questions.live_count.Kinds.r call_questions.live_count.Reads.Learnt (λ κs (p, _). asked_lives p)
live-count κs a z e h = h

pub potential-count : Answers call_questions.potential_count.Kinds.ps call_questions.potential_count.Kinds.r call_questions.potential_count.Reads.Learnt (λ κs (p, _). asked_potentials p)
potential-count κs a z e h = h
