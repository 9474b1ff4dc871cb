-- Words, numbers and identifiers as octets: "all decimal", "24 lower-case hex digits".
use Rattle.std.specs.Prelude.{ℕ, zero, suc, ◌+◌, ◌/◌, cond, List, [], ◌∷◌, ◌++◌, length, replicate, set, ltb}
use Prim.Native.Char.{code}
use Prim.Native.String.{String, [] as none, ◌∷◌ as ◌then◌}
use Rattle.std.proofs.lemmas.List.Edits.{sets}
use Rattle.io.specs.Digits.{last_digits}
use Rattle.base_mi.specs.declared.Mi.{Mi}
use Rattle.page.specs.declared.line.Line.{Line}

-- One octet for each character.
abbrev pub ascii : String → List ℕ
ascii none = []
ascii (c then s) = code c ∷ ascii s

-- How many decimal digits a number has, if at most `most` of them.
abbrev pub places_up_to : ℕ → ℕ → ℕ
places_up_to zero n = 0
places_up_to (suc most) n = cond (ltb n 10) 1 (suc (places_up_to most (n / 10)))

-- A number of at most 64 bits has at most 20.
unfoldable pub decimal_of : ℕ → List ℕ
decimal_of n = last_digits 10 (places_up_to 20 n) n

unfoldable pub hex_of : Mi → List ℕ
hex_of m = last_digits 16 16 m.hi ++ last_digits 16 8 m.lo

abbrev pub line_room : ℕ
line_room = 96

-- A text in a line, zeros past it.
unfoldable pub line_of : List ℕ → Line
line_of text = record { text = sets (replicate line_room 0) 0 text; len = length text }

-- A line with one octet more, where there is room for it.
abbrev pub pushed : Line → ℕ → Line
pushed l x = cond (ltb l.len line_room) (record { text = set l.text l.len x; len = l.len + 1 }) l

-- A line with more text, as much as there is room for.
unfoldable pub said : Line → List ℕ → Line
said l [] = l
said l (x ∷ text) = said (pushed l x) text

-- A line with its end, where there is line_room for it.
unfoldable pub ended_of : Line → Line
ended_of l = pushed l 10

-- "a refusal prints `refused 16`"
unfoldable pub refused_text : ℕ → List ℕ
refused_text n = (ascii "refused " ++ decimal_of n) ++ ascii "\n"
