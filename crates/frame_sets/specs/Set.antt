-- One further set: whether it is bad by the rules of the table of sets, and what a good one is.
use Rattle.std.specs.Prelude.{ℕ, ◌+◌, ◌-◌, ◌*◌, ◌%◌, List, Bool, true, false, not, ◌||◌, length, get_or, ltb, eqb, Option, Some, None}
use Rattle.base_octets.specs.Number.{be_at}
use Rattle.frame_rules.specs.Rules.{allowed, breaks, allowed_others, list_len}
use Rattle.frame_sets.specs.Kinds.{kind_at}
use Rattle.frame_places.specs.declared.Places.{Places}
use Rattle.frame_sets.specs.declared.Set.{Set}

-- "type; an octet of the type's own; one whose low four bits are the length's high bits; its low eight bits"
unfoldable pub len_at : List ℕ → ℕ → ℕ
len_at s at = get_or s (at + 2) 0 % 16 * 256 + get_or s (at + 3) 0

-- The set at `at`, where the sets end at `stop`, in the frame.
abbrev pub breaks_at : (ℕ → ℕ → Bool) → List ℕ → ℕ → ℕ → Places → Bool
breaks_at lengths s at stop seen = ltb (length s) stop || breaks lengths (get_or s at 0) (len_at s at) (stop - at) (be_at s (at + 4) 4) seen

-- 9, of one set: "a further set breaks the rules above"
unfoldable pub bad_set : List ℕ → ℕ → ℕ → Places → Bool
bad_set s at stop seen = breaks_at allowed s at stop seen

-- "its kind with its own fields and its header's place in the frame"
unfoldable pub set_fields : List ℕ → ℕ → Set
set_fields s at = record { place = at; len = len_at s at; kind = kind_at s at (get_or s at 0) (len_at s at) }

abbrev pub set_answer : Bool → Set → Option Set
set_answer true v = None
set_answer false v = Some v

-- The set at `at`, where the sets end at `stop`.
unfoldable pub set_of : List ℕ → ℕ → ℕ → Places → Option Set
set_of s at stop seen = set_answer (bad_set s at stop seen) (set_fields s at)

-- ---- the code's way: all rules but that on the lists' lengths, which a scan of the list tells after them; `two-stages` of proofs/ shows it the same

unfoldable pub bad_head : List ℕ → ℕ → ℕ → Places → Bool
bad_head s at stop seen = breaks_at allowed_others s at stop seen

unfoldable pub head_of : List ℕ → ℕ → ℕ → Places → Option Set
head_of s at stop seen = set_answer (bad_head s at stop seen) (set_fields s at)

abbrev pub bad_list : List ℕ → ℕ → Bool
bad_list s at = not (eqb (list_len (get_or s at 0) (len_at s at) % 16) 0)
