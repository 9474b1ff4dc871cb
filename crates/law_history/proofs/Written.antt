-- The frame that an accepted send leaves, read as a peer reads it: our identifier, and MN + 1.
use Prim.Native.Nat.{ℕ, ◌+◌, ◌^◌, ◌≤◌, ◌<◌}
use Rattle.std.specs.Prelude.{◌≡◌, true, drop}
use Rattle.std.proofs.Math.Path.{refl}
use Rattle.std.proofs.Common.{ap, ◌∙◌, arith}
use mathlib.Core.List.{List, [], ◌∷◌, ◌++◌}
use Rattle.std.proofs.Math.ListN.{length}
use Rattle.std.proofs.lemmas.Bool.{eqb-false}
use Rattle.base_octets.specs.Number.{be_of}
use Rattle.base_octets.proofs.Laws.{length-be_of}
use Rattle.base_octets.proofs.Fields.{Stands, first, second, number-stands}
use Rattle.base_mi.specs.Mi.{mi_octets}
use Rattle.base_mi.specs.Fitting.{Fitting}
use Rattle.base_mi.proofs.Laws.{length-mi, mi-stands}
use Rattle.base_packed.specs.Basic.{octet_of}
use Rattle.frame.specs.Basic.{basic_fields}
use Rattle.frame_writer.specs.Frame.{header_octets, sender_flags, fixed_octets, ckn_of, basic_octets, body_octets, frame_of}
use Rattle.frame_writer.specs.declared.Mkpdu.{Mkpdu}
use Rattle.frame_writer.proofs.Laws.{length-header}
use Rattle.participant.specs.Call.{aged_to}
use Rattle.participant.specs.declared.Participant.{Participant}
use Rattle.law_calls.specs.Passed.{send-passed}
use Rattle.call_judge.specs.Judge.{basic_in}
use Rattle.call_send.specs.Message.{sender_of, message_of}
use Rattle.call_send.specs.Send.{frame_at, left_by}
use Rattle.call_send.proofs.Laws.{send-accepted}
use Rattle.law_history.specs.Calls.{sends, accepts}
use Rattle.law_history.specs.Steps.{accepted-zero, accepted-none}

-- where identifier and number stand in a frame
module _ (m : Mkpdu) (rest : List ℕ) where
  abbrev whole : List ℕ
  whole = frame_of m ++ rest

  member-stand : Stands whole (mi_octets m.sender.mi ++ (be_of 4 m.sender.mn ++ be_of 4 0x0080c201)) 16
  unfolding frame_of body_octets basic_octets fixed_octets
  member-stand =
      let x = m.sender in
      let head = header_octets (length (body_octets m)) in
      let four : List ℕ = 1 ∷ x.priority ∷ octet_of (sender_flags x) ∷ (28 + length (ckn_of x)) ∷ [] in
      let all : Stands whole (frame_of m) 0 = record { before = []; after = rest; whole = refl; place = refl } in
      let body : Stands whole (body_octets m) 4 = second whole head (body_octets m) 0 4 (length-header (length (body_octets m))) all in
      let fixed : Stands whole (fixed_octets x (length (ckn_of x))) 4 = first whole (fixed_octets x (length (ckn_of x))) _ 4 (first whole (basic_octets x) _ 4 body) in
      let sci = second whole four _ 4 4 refl fixed in
      second whole (be_of 8 x.sci) _ 8 8 (length-be_of 8 x.sci) sci

  number_in : m.sender.mn < 2 ^ 32 → (basic_in whole).mn ≡ m.sender.mn
  unfolding basic_fields
  number_in h =
      number-stands whole 4 m.sender.mn 28 h (first whole (be_of 4 m.sender.mn) _ 28 (second whole (mi_octets m.sender.mi) _ 16 12 (length-mi m.sender.mi) member-stand))

  member-in : Fitting m.sender.mi → (basic_in whole).mi ≡ m.sender.mi
  unfolding basic_fields
  member-in h = mi-stands whole m.sender.mi 16 h (first whole (mi_octets m.sender.mi) _ 16 member-stand)

-- the number there is MN + 1
pub number-sent : (p : Participant) (time latest_pn old_pn : ℕ) (out : List ℕ) → p.mn ≤ 4294967295 → accepts p (sends time latest_pn old_pn out) ≡ true
    → (basic_in (left_by p time latest_pn old_pn out)).mn ≡ p.mn + 1
unfolding frame_at message_of sender_of aged_to
number-sent p time l o out h e =
    let s = (send-accepted p time l o out (accepted-zero p (sends time l o out) e)).1 in
    let top = eqb-false p.mn 4294967295 (send-passed p time l o (length out) (accepted-none p (sends time l o out) e)).mn in
    let m = message_of (aged_to p time) l o in
    ap (λ (f : List ℕ). (basic_in f).mn) s ∙ number_in m (drop (length (frame_at p time l o)) out) (omega arith)

-- and the identifier there is ours
pub identifier-sent : (p : Participant) (time latest_pn old_pn : ℕ) (out : List ℕ) → Fitting p.mi → accepts p (sends time latest_pn old_pn out) ≡ true
    → (basic_in (left_by p time latest_pn old_pn out)).mi ≡ p.mi
unfolding frame_at message_of sender_of aged_to
identifier-sent p time l o out h e =
    let s = (send-accepted p time l o out (accepted-zero p (sends time l o out) e)).1 in
    ap (λ (f : List ℕ). (basic_in f).mi) s ∙ member-in (message_of (aged_to p time) l o) (drop (length (frame_at p time l o)) out) h
