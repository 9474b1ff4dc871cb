-- The rules of the table of sets.
use Rattle.std.specs.Prelude.{ℕ, ◌+◌, ◌%◌, Bool, true, false, cond, not, ◌||◌, ◌&&◌, leb, eqb}
use Rattle.base_facts.specs.Facts.{padded_of}
use Rattle.frame_places.specs.Once.{holds}
use Rattle.frame_places.specs.declared.Places.{Places}

-- types 1 and 2: "Live, Potential peers"
abbrev pub is_list : ℕ → Bool
is_list t = eqb t 1 || eqb t 2

-- "Body lengths allowed", by type: "multiple of 16", "0, 40", "0, 28, 36, 52", "16"; "Other types need only fit".
abbrev pub allowed : ℕ → ℕ → Bool
allowed t len =
    cond (is_list t) (eqb (len % 16) 0)
    (cond (eqb t 3) (eqb len 0 || eqb len 40)
    (cond (eqb t 4) (eqb len 0 || (eqb len 28 || (eqb len 36 || eqb len 52)))
    (cond (eqb t 255) (eqb len 16) true)))

-- "every set is padded to a multiple of 4"; of type 255 "its header only": the octets that a set takes
unfoldable pub extent_of : ℕ → ℕ → ℕ
extent_of t len = cond (eqb t 255) 4 (4 + padded_of len)

-- What a set takes fits in the `room` from its header to the ICV; type 255 "stands right before the ICV".
abbrev pub fits : ℕ → ℕ → ℕ → Bool
fits t len room = cond (eqb t 255) (eqb room (extent_of t len)) (leb (extent_of t len) room)

-- "The key number (KN) is not zero in a type 4 body that isn't empty": here it is.
abbrev pub unnumbered : ℕ → ℕ → ℕ → Bool
unnumbered t len kn = eqb t 4 && (not (eqb len 0) && eqb kn 0)

-- A set of type t, its body of `len` octets beginning with kn, doesn't fit, or has a length that isn't allowed, or no key number, or stood before:
-- "Types 1 to 4 may stand at most once each".
abbrev pub breaks : (ℕ → ℕ → Bool) → ℕ → ℕ → ℕ → ℕ → Places → Bool
breaks lengths t len room kn seen = not (fits t len room) || (not (lengths t len) || (unnumbered t len kn || holds seen t))

-- ---- the code's way: all rules but that on the lists' lengths, which a scan of the list tells after them

-- The lengths allowed, with any length for a list.
abbrev pub allowed_others : ℕ → ℕ → Bool
allowed_others t len = is_list t || allowed t len

unfoldable pub bad_shape : ℕ → ℕ → ℕ → ℕ → Places → Bool
bad_shape t len room kn seen = breaks allowed_others t len room kn seen

-- what the body of a set of type 3 or 4 breaks
unfoldable pub bad_body : ℕ → ℕ → ℕ → Bool
bad_body t len kn = cond (eqb t 3 || eqb t 4) (not (allowed t len) || unnumbered t len kn) false

-- the octets of entries in a body of a set of type t
unfoldable pub list_len : ℕ → ℕ → ℕ
list_len t len = cond (is_list t) len 0
