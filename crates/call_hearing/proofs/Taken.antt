-- The keys taken by themselves are those of the participant.
use mathlib.Core.Path.{◌≡◌, refl}
use mathlib.Core.List.{List}
use Prim.Native.Nat.{ℕ}
use lib.Dec.{eqb}
use Rattle.std.specs.Prelude.{Option, Some, None}
use Rattle.base_mi.specs.declared.Mi.{Mi}
use Rattle.frame_places.specs.declared.Spot.{Spot}
use Rattle.frame_sets.specs.Kinds.{sak_in}
use Rattle.participant.specs.Keys.{with_key, without_keys}
use Rattle.participant.specs.Record.{set_latest, set_old}
use Rattle.participant.specs.declared.Participant.{Participant}
use Rattle.call_standing.specs.Standing.{server_of}
use Rattle.law_lists.proofs.Laws.{by_cases}
use Rattle.call_hearing.specs.declared.keys.Taken.{Taken}
use Rattle.call_hearing.specs.Keys.{Keyed, is_peer, is_server, known_by, is_known, keyed_of, taken_of}

-- the participant with the keys that were taken
abbrev pub keyed_with : Participant → Taken → Keyed
keyed_with p k = record { participant = set_latest k.latest (set_old k.old p); wrapped = k.wrapped }

pub keyed-taken : (p : Participant) (s : List ℕ) (m : Mi) (sak : Option Spot) → keyed_with p (taken_of (server_of p) p.latest p.old s m sak) ≡ keyed_of p s m sak
unfolding keyed_of taken_of is_server is_known with_key without_keys
keyed-taken p s m None = refl
keyed-taken p s m (Some sak) =
    by_cases (is_peer (server_of p) m)
    (λ b. by_cases (eqb sak.len 0)
    (λ e. rw (b, e))
    (λ e. by_cases (known_by p.latest p.old m (sak_in s sak.place sak.len).kn)
    (λ f. rw (b, e, f))
    (λ f. rw (b, e, f))))
    (λ b. rw b)

-- "0 and 0 if no key was entered": a frame without a Distributed SAK
pub keyed-without : (p : Participant) (s : List ℕ) (m : Mi) (sak : Option Spot) → sak ≡ None → record { participant = p; wrapped = record { place = 0; len = 0 } } ≡ keyed_of p s m sak
unfolding keyed_of
keyed-without p s m sak e = rw e
