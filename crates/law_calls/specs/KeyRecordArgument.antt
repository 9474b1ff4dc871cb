-- The argument for KeyRecord: `keyed_of` in each of its cases.
use Rattle.std.specs.Prelude.{ℕ, List, Option, Some, None}
use Rattle.std.proofs.Common.{refl, inl, inr}
use borrow.Author.Tests.{ne_eqb}
use Rattle.base_mi.specs.declared.Mi.{Mi}
use Rattle.frame_places.specs.declared.Spot.{Spot}
use Rattle.participant.specs.declared.Participant.{Participant}
use Rattle.call_hearing.specs.Keys.{keyed_of}
use Rattle.law_calls.specs.KeyRecord.{NotUsed, EmptyDrops, KnownIgnored, NewEntered}

module _ (p : Participant) (frame : List ℕ) (m : Mi) where
  pub not-used : (sak : Option Spot) → NotUsed p frame m sak
  unfolding keyed_of
  not-used sak (inl e) = rw e
  not-used None (inr e) = refl
  not-used (Some sak) (inr e) = rw e

  pub empty-drops : (sak : Spot) → EmptyDrops p frame m sak
  unfolding keyed_of
  empty-drops sak u e = rw (u, e)

  pub known-ignored : (sak : Spot) → KnownIgnored p frame m sak
  unfolding keyed_of
  known-ignored sak u d e = rw (u, ne_eqb sak.len 0 d, e)

  pub new-entered : (sak : Spot) → NewEntered p frame m sak
  unfolding keyed_of
  new-entered sak u d e = rw (u, ne_eqb sak.len 0 d, e)
