-- What asking a reader again and again should give: "the further sets as the walk does, none where facts 2 to 5 hold".
use Rattle.std.specs.Prelude.{ℕ, zero, suc, ◌+◌, ◌-◌, [], ◌∷◌, cond, leb, Result, Ok, Err}
use mathlib.Core.List as core
use Rattle.frame.specs.Basic.{basic_of}
use Rattle.base_facts.specs.declared.Refusal.{Refusal}
use Rattle.frame.specs.declared.Basic.{Basic}
use Rattle.frame_sets.specs.Kinds.{type_of}
use Rattle.frame_places.specs.Once.{no_places, places_with}
use Rattle.frame_sets.specs.Set.{bad_set, set_fields}
use Rattle.frame_rules.specs.Rules.{extent_of}
use Rattle.frame_places.specs.declared.Places.{Places}
use Rattle.frame_sets.specs.declared.Set.{Set}
use Rattle.frame_walk.specs.Walk.{next_at, places_after, walk_of}
use Rattle.frame_reader.specs.Reader.{next_of, moved}
use Rattle.frame_reader.specs.declared.step.Next.{Next}
use Rattle.frame_reader.specs.declared.step.Next.TheVariants.{Set as Handed, End, Bad, Refused}
use Rattle.frame_reader.specs.declared.Reader.{Reader}

-- The good sets that the walk goes over, in its order: at most `fuel` from `at` on, as `walk_go` has it.
unfoldable pub sets_go : ℕ → core.List ℕ → ℕ → ℕ → Places → core.List Set
sets_go zero s stop at p = []
sets_go (suc fuel) s stop at p =
    cond (leb stop at) []
    (cond (bad_set s at stop p) []
    (set_fields s at ∷ sets_go fuel s stop (next_at s at) (places_after s at p)))

-- the sets of `walk_from`, and of `walk_of`
abbrev pub sets_from : core.List ℕ → ℕ → ℕ → Places → core.List Set
sets_from s stop at p = sets_go (stop - at) s stop at p

abbrev pub sets_of : core.List ℕ → ℕ → ℕ → core.List Set
sets_of s at stop = sets_from s stop at no_places

-- where the last of these sets ends, and the places with all of them
abbrev pub end_after : ℕ → core.List Set → ℕ
end_after at [] = at
end_after at (v ∷ vs) = end_after (v.place + extent_of (type_of v.kind) v.len) vs

abbrev pub places_of : Places → core.List Set → Places
places_of p [] = p
places_of p (v ∷ vs) = places_of (places_with p (type_of v.kind) v.place v.len) vs

-- the walk's answer, by the sets that it went over: to the end, or to the place where they end before it
abbrev pub walked_by : ℕ → ℕ → Places → core.List Set → Result Places ℕ
walked_by stop at p vs = cond (leb stop (end_after at vs)) (Ok (places_of p vs)) (Err (end_after at vs))

-- The further sets of a frame.
abbrev pub sets_in : core.List ℕ → Result Basic Refusal → core.List Set
sets_in s (Ok b) = sets_of s b.next b.stop
sets_in s (Err why) = []

abbrev pub frame_sets : core.List ℕ → core.List Set
frame_sets s = sets_in s (basic_of s)

-- Why there is none after them: the end, the place of the bad set, or the fact of 2 to 5 that holds.
abbrev pub none_of : Result Places ℕ → Next
none_of (Ok p) = End
none_of (Err at) = Bad at

abbrev pub none_in : core.List ℕ → Result Basic Refusal → Next
none_in s (Ok b) = none_of (walk_of s b.next b.stop)
none_in s (Err why) = Refused why

abbrev pub frame_none : core.List ℕ → Next
frame_none s = none_in s (basic_of s)

-- What a reader answers when it was asked n times before.
abbrev pub answer : ℕ → Reader → Next
answer zero r = next_of r
answer (suc n) r = answer n (moved r)

-- What it hands out until there is none, asked at most n times.
abbrev pub handed_by : Next → core.List Set → core.List Set
handed_by (Handed v) vs = v ∷ vs
handed_by End vs = []
handed_by (Bad at) vs = []
handed_by (Refused why) vs = []

unfoldable pub until_none : ℕ → Reader → core.List Set
until_none zero r = []
until_none (suc n) r = handed_by (next_of r) (until_none n (moved r))
