-- "Types 1 to 4 may stand at most once each": which have stood, and where.
use Rattle.std.specs.Prelude.{ℕ, Bool, false, cond, eqb, Option, Some, None, is_some}
use Rattle.frame_places.specs.declared.Spot.{Spot}
use Rattle.frame_places.specs.declared.Places.{Places}

abbrev pub spot_at : ℕ → ℕ → Option Spot
spot_at place len = Some (record { place = place; len = len })

abbrev pub no_places : Places
no_places = record { live = None; potential = None; sak_use = None; sak = None }

-- a set of type t has stood before
unfoldable pub holds : Places → ℕ → Bool
holds p t =
    cond (eqb t 1) (is_some p.live)
    (cond (eqb t 2) (is_some p.potential)
    (cond (eqb t 3) (is_some p.sak_use)
    (cond (eqb t 4) (is_some p.sak) false)))

-- the places with the set of type t at `place`, if t is 1 to 4
unfoldable pub places_with : Places → ℕ → ℕ → ℕ → Places
places_with p t place len =
    record {
      live = cond (eqb t 1) (spot_at place len) p.live;
      potential = cond (eqb t 2) (spot_at place len) p.potential;
      sak_use = cond (eqb t 3) (spot_at place len) p.sak_use;
      sak = cond (eqb t 4) (spot_at place len) p.sak;
    }
