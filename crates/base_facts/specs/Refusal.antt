-- "Numbers of refusal": each fact with its number.
use Rattle.std.specs.Prelude.{ℕ, cond, eqb, Result, Ok, Err}
use Rattle.std.proofs.Math.Option.{Option, none, some}
use Rattle.base_facts.specs.declared.Refusal.{Refusal}
use Rattle.base_facts.specs.declared.Refusal.TheVariants.{Early, Cut, Foreign, Body, Basic, OtherCkn, OtherAgility, Unverified, BadSet, OwnMi, Stale, Full, NoRoom, Spent, BadStart, BadImage, NotDue, Misreported, InUse}

abbrev pub number_of : Refusal → ℕ
-- "time earlier than the clock"
number_of Early = 1
-- "under 4 octets, or body length beyond the slice"
number_of Cut = 2
-- "EAPOL version under 3 or type not 5"
number_of Foreign = 3
-- "body under 32 or not a multiple of 4"
number_of Body = 4
-- "Basic length not 29 to 60, or Basic set with padding and ICV exceeds the body"
number_of Basic = 5
-- "CKN not ours"
number_of OtherCkn = 6
-- "agility not 00-80-C2-01"
number_of OtherAgility = 7
-- "ICV verdict is no"
number_of Unverified = 8
-- "a further set breaks the rules above"
number_of BadSet = 9
-- "the sender's MI is ours"
number_of OwnMi = 10
-- "MN 0, or not above the MN held for that MI"
number_of Stale = 11
-- "MI new and 16 peers held"
number_of Full = 12
-- "lent output too short for the whole output"
number_of NoRoom = 13
-- "sending with MN, distributing with KN, already 4,294,967,295"
number_of Spent = 14
-- "creating with CKN outside 1 to 32 or capability outside 1 to 3; wrapped key not 24 octets"
number_of BadStart = 15
-- "image not well formed"
number_of BadImage = 16
-- "no fresh SAK is due"
number_of NotDue = 17
-- "installation report for a key other than the latest, or transmit before receive"
number_of Misreported = 18
-- "new MI equal to the present one or to the MI of a key on record"
number_of InUse = 19

-- The refusal of a number, of 1 to 19 that which `number_of` gives it (number_refused, Laws).
abbrev pub refusal : ℕ → Refusal
refusal n =
    cond (eqb n 1) Early (cond (eqb n 2) Cut (cond (eqb n 3) Foreign (cond (eqb n 4) Body (cond (eqb n 5) Basic (
    cond (eqb n 6) OtherCkn (cond (eqb n 7) OtherAgility (cond (eqb n 8) Unverified (cond (eqb n 9) BadSet (cond (eqb n 10) OwnMi (
    cond (eqb n 11) Stale (cond (eqb n 12) Full (cond (eqb n 13) NoRoom (cond (eqb n 14) Spent (cond (eqb n 15) BadStart (
    cond (eqb n 16) BadImage (cond (eqb n 17) NotDue (cond (eqb n 18) Misreported InUse)))))))))))))))))

-- What is answered where n is the number of the first fact that holds, 0 if none does.
abbrev pub told : {A : Type 0} → ℕ → A → Result A Refusal
told n x = cond (eqb n 0) (Ok x) (Err (refusal n))

-- The number that an answer carries, if it refuses.
abbrev pub number_in : {A : Type 0} → Result A Refusal → Option ℕ
number_in (Ok x) = none
number_in (Err why) = some (number_of why)
