-- Why: the message is in range, so that each part of it is read back.
use Rattle.std.specs.Prelude.{ℕ, ◌^◌, ◌<◌, ◌≡◌, Bool, true, false, List, ◌++◌, length, Ok, IfSome, is_some}
use Rattle.std.proofs.Common.{ap, sym, refl, ◌∙◌}
use Rattle.base_facts.specs.Facts.{first_of}
use Rattle.frame.specs.Basic.{basic_facts, basic_of}
use Rattle.frame.specs.Ours.{fact6, fact7}
use Rattle.frame.specs.declared.Basic.{Basic}
use Rattle.frame_places.specs.declared.Spot.{Spot}
use Rattle.frame_walk.specs.Walk.{walk_of}
use Rattle.table_counts.proofs.Listing.{live-listed, potential-listed}
use Rattle.frame_writer.specs.Frame.{ckn_of, body_octets, frame_of}
use Rattle.frame_writer.specs.declared.Mkpdu.{Mkpdu}
use Rattle.participant.specs.Call.{aged_to}
use Rattle.participant.specs.declared.Participant.{Participant}
use Rattle.call_judge.specs.Judge.{basic_in}
use Rattle.call_judge.proofs.Laws.{told-ok}
use Rattle.call_send.specs.Message.{hands_out, sender_of, sak_of, usage_of, said_if, message_of}
use Rattle.call_send.specs.Send.{frame_at}
use Rattle.law_round.specs.Ranged.{basic_written, use_place, sak_place, spot_if, places_written}
use Rattle.law_round.proofs.Round.{basic-back, ckn-back, walk-back, live_back, potential-back, use-back, sak-back, wrapped-back}
use Rattle.law_sends.specs.Sendable.{Sendable}
use Rattle.law_sends.proofs.Ranged.{message-ranged}
use Rattle.law_sends.specs.Sent.{Tells, SendsReadBack}

-- a set that a frame has stands where it was written, and one that it hasn't stands nowhere
module _ {A : Type 0} (x : A) (place len : ℕ) where
  there : (b : Bool) → is_some (spot_if (is_some (said_if b x)) place len) ≡ b
  there true = refl
  there false = refl

  stands : (b : Bool) (P : A → Type 0) (Q : Spot → Type 0) → (P x → Q (record { place = place; len = len })) → IfSome (said_if b x) P → IfSome (spot_if (is_some (said_if b x)) place len) Q
  stands true P Q f h = f h
  stands false P Q f h = tt

-- what reading a Basic set gives
basic-in : (s : List ℕ) (b : Basic) → basic_of s ≡ Ok b → basic_in s ≡ b
unfolding basic_of
basic-in s b e = (told-ok (first_of (basic_facts s)) (basic_in s) b e).1

tells : (p : Participant) (latest_pn old_pn : ℕ) (rest : List ℕ) → latest_pn < 2 ^ 32 → old_pn < 2 ^ 32 → Sendable p → Tells p latest_pn old_pn (frame_of (message_of p latest_pn old_pn) ++ rest)
unfolding message_of sender_of sak_of
tells p latest_pn old_pn rest hl ho g =
    let m : Mkpdu = message_of p latest_pn old_pn in
    let f = frame_of m ++ rest in
    let r = message-ranged p latest_pn old_pn hl ho g in
    let back = basic-back m rest r in
    let b = basic-in f (basic_written (sender_of p) (length (body_octets m))) back in
    record {
      read = back ∙ ap Ok (sym b);
      ckn = ap (λ (x : Basic). fact6 f x (ckn_of (sender_of p))) b ∙ ckn-back m rest r;
      agility = ap fact7 b;
      priority = ap (λ (x : Basic). x.priority) b;
      server = ap (λ (x : Basic). x.server) b;
      desired = ap (λ (x : Basic). x.desired) b;
      capability = ap (λ (x : Basic). x.capability) b;
      sci = ap (λ (x : Basic). x.sci) b;
      mi = ap (λ (x : Basic). x.mi) b;
      mn = ap (λ (x : Basic). x.mn) b;
      places = places_written m;
      walked = ap (λ (x : Basic). walk_of f x.next x.stop) b ∙ walk-back m rest r;
      live = live_back m rest r ∙ live-listed p.table;
      potential = potential-back m rest r ∙ potential-listed p.table;
      used = there (usage_of p.latest p.old latest_pn old_pn) (use_place m) 40 p.latest.held;
      keys = stands (usage_of p.latest p.old latest_pn old_pn) (use_place m) 40 p.latest.held _ _ (λ h. h) (use-back m rest r);
      distributed = there (sak_of p) (sak_place m) 28 (hands_out p);
      sak = stands (sak_of p) (sak_place m) 28 (hands_out p) _ _ (λ h. h) (sak-back m rest r);
      wrapped = stands (sak_of p) (sak_place m) 28 (hands_out p) _ _ (λ h. h) (wrapped-back m rest r);
    }

pub sends-read-back : SendsReadBack
unfolding frame_at
sends-read-back p time latest_pn old_pn rest hl ho g = tells (aged_to p time) latest_pn old_pn rest hl ho g
