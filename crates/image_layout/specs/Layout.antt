-- "Contents table first: count 3 (2 octets), 0 (2 octets), three entries of kind (2), number of records (2), offset (4); kinds 1, 2, 3.
-- Bodies follow in that order without gaps and end the image." All of it over the number of kinds.
use Rattle.std.specs.Prelude.{ℕ, suc, ◌+◌, ◌*◌, List, [], ◌∷◌, ◌++◌, Bool, ◌&&◌, length, take, drop, eqb}
use Rattle.base_octets.specs.Number.{be_at, be_of}

-- One kind's part of an image: the number of its records, and their octets.
pub record Part : Type 0 where
  pub records : ℕ
  pub body : List ℕ

-- "count 3 (2 octets), 0 (2 octets)"
unfoldable pub contents_head : ℕ → List ℕ
contents_head kinds = be_of 2 kinds ++ be_of 2 0

-- "kind (2), number of records (2), offset (4)"
unfoldable pub contents_entry : ℕ → ℕ → ℕ → List ℕ
contents_entry kind records offset = be_of 2 kind ++ (be_of 2 records ++ be_of 4 offset)

-- The entries from a kind on, whose bodies begin at `at`.
unfoldable pub contents_entries : ℕ → ℕ → List Part → List ℕ
contents_entries kind at [] = []
contents_entries kind at (p ∷ ps) = contents_entry kind p.records at ++ contents_entries (suc kind) (at + length p.body) ps

-- "Bodies follow in that order without gaps"
unfoldable pub bodies : List Part → List ℕ
bodies [] = []
bodies (p ∷ ps) = p.body ++ bodies ps

-- Where the entry of a kind stands, the first being 0, and where the bodies begin.
abbrev pub place : ℕ → ℕ
place i = 4 + i * 8

-- The octets of an image of these parts.
unfoldable pub laid_of : List Part → List ℕ
laid_of ps = contents_head (length ps) ++ (contents_entries 1 (place (length ps)) ps ++ bodies ps)

-- What an entry says.
unfoldable pub entry_kind : List ℕ → ℕ → ℕ
entry_kind s i = be_at s (place i) 2

unfoldable pub records_at : List ℕ → ℕ → ℕ
records_at s i = be_at s (place i + 2) 2

unfoldable pub offset_at : List ℕ → ℕ → ℕ
offset_at s i = be_at s (place i + 4) 4

-- The entries from i on are those of kinds whose records have these sizes, the first body at `at`; the last one "end[s] the image".
unfoldable pub laid_from : List ℕ → ℕ → ℕ → List ℕ → Bool
laid_from s i at [] = eqb at (length s)
laid_from s i at (k ∷ ks) = eqb (entry_kind s i) (i + 1) && (eqb (offset_at s i) at && laid_from s (i + 1) (at + records_at s i * k) ks)

-- "this layout", of kinds 1, 2, .. whose records have these sizes
unfoldable pub laid_out : List ℕ → List ℕ → Bool
laid_out s sizes = eqb (be_at s 0 2) (length sizes) && (eqb (be_at s 2 2) 0 && laid_from s 0 (place (length sizes)) sizes)

-- The parts that such an image is made of.
unfoldable pub parts_from : List ℕ → ℕ → ℕ → List ℕ → List Part
parts_from s i at [] = []
parts_from s i at (k ∷ ks) = record { records = records_at s i; body = take (records_at s i * k) (drop at s) } ∷ parts_from s (i + 1) (at + records_at s i * k) ks

unfoldable pub parts_in : List ℕ → List ℕ → List Part
parts_in s sizes = parts_from s 0 (place (length sizes)) sizes
