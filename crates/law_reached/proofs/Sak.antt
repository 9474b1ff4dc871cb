-- A Distributed SAK set that the walk over a frame finds and that isn't empty: it stands in the frame and its KN is not 0.
use Prim.Native.Nat.{ℕ, zero, suc, ◌+◌, ◌^◌, ◌<◌}
use Rattle.std.specs.Prelude.{◌≡◌, false, List, length, get_or, leb, eqb, Some}
use Rattle.std.proofs.Common.{ap, sym, ◌∙◌, arith, eqb-true}
use Rattle.std.proofs.lemmas.Bool.{lt-leb}
use Rattle.base_octets.specs.Number.{be_at}
use Rattle.base_octets.specs.Octets.{Octets}
use Rattle.base_octets.proofs.Laws.{be_at-lt}
use Rattle.frame_sets.specs.Kinds.{sak_at, sak_in}
use Rattle.frame_places.specs.Once.{no_places, places_with}
use Rattle.frame_sets.specs.Set.{len_at, bad_set}
use Rattle.frame_places.specs.declared.Places.{Places}
use Rattle.frame_places.specs.declared.Spot.{Spot}
use Rattle.frame_sets.proofs.Laws.{head-room, good-head, good-numbered}
use Rattle.frame_walk.specs.Walk.{next_at, places_after, walk_go, walk_from, walk_of}
use Rattle.law_lists.proofs.Laws.{by_cases}
use Rattle.call_judge.specs.Judge.{basic_in, places_in}
use Rattle.law_history.specs.Keys.{sak_spot, sak_read}

-- "The key number (KN) is not zero in a type 4 body that isn't empty."
pub record Numbered (s : List ℕ) (place : ℕ) : Type 0 where
  pub inside : place < length s
  pub kn : eqb (be_at s (place + 4) 4) 0 ≡ false

abbrev Found : List ℕ → Places → Type 0
Found s w = (spot : Spot) → w.sak ≡ Some spot → eqb spot.len 0 ≡ false → Numbered s spot.place

module _ (s : List ℕ) (stop : ℕ) where
  found-next : (at : ℕ) (p : Places) → bad_set s at stop p ≡ false → Found s p → Found s (places_after s at p)
  unfolding places_with
  found-next at p e f =
      by_cases (eqb (get_or s at 0) 4)
      (λ t. rw t (λ spot there z.
      let same : record { place = at; len = len_at s at } ≡ spot = cc in
      let place : at ≡ spot.place = ap (λ (x : Spot). x.place) same in
      let room = head-room s at stop p (good-head s at stop p e) in
      let n : Numbered s at = record { inside = omega (arith, room.0, room.1); kn = good-numbered s at stop p e (eqb-true (get_or s at 0) 4 t) (ap (λ (x : Spot). eqb x.len 0) same ∙ z) } in
      rw (sym place) n))
      (λ t. rw t f)

  found-walk : (fuel at : ℕ) (p : Places) → Found s p → Found s (places_in (walk_go fuel s stop at p))
  unfolding walk_go
  found-walk zero at p f = f
  found-walk (suc fuel) at p f =
      by_cases (leb stop at)
      (λ a. rw a f)
      (λ a. by_cases (bad_set s at stop p)
      (λ b. rw (a, b) (λ spot there z. absurd (cc)))
      (λ b. rw (a, b) (found-walk fuel (next_at s at) (places_after s at p) (found-next at p b f))))

-- a key that a frame hands out
pub record Carries (s : List ℕ) (spot : Spot) : Type 0 where
  pub kn : eqb (sak_read s spot).kn 0 ≡ false
  pub width : (sak_read s spot).kn < 2 ^ 32
  pub suite : (sak_read s spot).suite < 2 ^ 64
  pub an : (sak_read s spot).an < 4
  pub confidentiality : (sak_read s spot).confidentiality < 4

pub handed_out : (s : List ℕ) (spot : Spot) → Octets s → sak_spot s ≡ Some spot → eqb spot.len 0 ≡ false → Carries s spot
unfolding walk_from walk_of sak_in sak_at
handed_out s spot o there z =
    let n : Numbered s spot.place = found-walk s (basic_in s).stop _ (basic_in s).next no_places (λ x a b. absurd (cc)) spot there z in
    let inside = lt-leb (length s) spot.place n.inside in
    record {
      kn = rw inside n.kn;
      width = rw inside (be_at-lt s (spot.place + 4) 4 o);
      suite = rw inside (by_cases (eqb spot.len 28) (λ e. rw e (omega arith)) (λ e. rw e (be_at-lt s (spot.place + 8) 8 o)));
      an = rw inside (omega (arith, (o (spot.place + 1)).fits));
      confidentiality = rw inside (omega arith);
    }
