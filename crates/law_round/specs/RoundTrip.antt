-- What is written is read again. Proved in RoundTripArgument.
use Rattle.std.specs.Prelude.{ℕ, ◌+◌, ◌≡◌, false, List, ◌++◌, length, IfSome, Ok}
use Rattle.base_octets.specs.Run.{part_of}
use Rattle.base_mi.specs.Entry.{entries_of}
use Rattle.frame.specs.Basic.{icv_place, basic_of}
use Rattle.frame.specs.Ours.{fact6, fact7}
use Rattle.frame_sets.specs.Kinds.{sak_at, sak_use_at}
use Rattle.frame_walk.specs.Walk.{walk_of}
use Rattle.frame_writer.specs.Frame.{ckn_of, body_octets, frame_of}
use Rattle.frame_writer.specs.declared.Mkpdu.{Mkpdu}
use Rattle.law_round.specs.Ranged.{Ranged, basic_written, live_place, use_place, sak_place, places_written, sak_written, listed}

-- The octets tell the value that was written.
pub record ReadBack (m : Mkpdu) (octets : List ℕ) : Type 0 where
  -- facts 2 to 5 don't hold, and every field of the Basic set is there; nor do 6 and 7
  pub basic : basic_of octets ≡ Ok (basic_written m.sender (length (body_octets m)))
  pub ckn : fact6 octets (basic_written m.sender (length (body_octets m))) (ckn_of m.sender) ≡ false
  pub agility : fact7 (basic_written m.sender (length (body_octets m))) ≡ false
  -- the walk over the further sets comes to its end, and tells where each stands
  pub walked : walk_of octets (live_place m) (icv_place (length (body_octets m))) ≡ Ok (places_written m)
  -- the entries of both lists, in order
  pub live : listed octets (places_written m).live ≡ entries_of m.live
  pub potential : listed octets (places_written m).potential ≡ entries_of m.potential
  -- the keys' fields, and the wrapped key
  pub used : IfSome m.usage (λ u. sak_use_at octets (use_place m) ≡ u)
  pub sak : IfSome m.sak (λ k. sak_at octets (sak_place m) 28 ≡ sak_written k (sak_place m))
  pub wrapped : IfSome m.sak (λ k. part_of octets (sak_place m + 8) 24 ≡ k.wrapped)

-- Any value in range, whatever octets follow the frame.
abbrev pub RoundTrip : Type 0
RoundTrip = (m : Mkpdu) (rest : List ℕ) → Ranged m → ReadBack m (frame_of m ++ rest)
