-- What a line says, part after part.
use Prim.Native.Nat.{ℕ, suc, ◌+◌, ◌≤◌, ◌<◌}
use mathlib.Core.Path.{◌≡◌, refl, sym, ◌∙◌}
use mathlib.Core.List.{List, [], ◌∷◌, ◌++◌}
use native.Mathlib.Nat.{zero-add}
use native.Mathlib.Omega.{arith}
use native.Mathlib.Numerals.{add-one}
use borrow.Author.Tests.{lt-ltb}
use lib.ListN.{length, set}
use lib.Seq.{sets}
use Rattle.page.specs.declared.line.Line.{Line}
use Rattle.page.specs.Text.{ascii, line_room, line_of, pushed, said, ended_of}

-- two parts of the text
pub said-append : (l : Line) (a b : List ℕ) → said l (a ++ b) ≡ said (said l a) b
unfolding said
said-append l [] b = refl
said-append l (x ∷ a) b = said-append (pushed l x) a b

pub ended-said : (l : Line) → ended_of l ≡ said l (ascii "\n")
unfolding ended_of said
ended-said l = refl

-- where there is room for all of it, nothing is left out
pub said-whole : (l : Line) (text : List ℕ) → l.len + length text ≤ line_room → said l text ≡ record { text = sets l.text l.len text; len = l.len + length text }
unfolding said
said-whole l [] h = let e : l.len + 0 ≡ l.len = omega arith in rw e
said-whole l (x ∷ text) h =
    let lt : l.len < 96 = omega arith in
    let e : l.len + suc (length text) ≡ suc l.len + length text = omega arith in
    rw (lt-ltb l.len 96 lt, e, add-one) (said-whole (record { text = set l.text l.len x; len = suc l.len }) text (omega arith))

pub line-said : (text : List ℕ) → length text ≤ line_room → line_of text ≡ said (line_of []) text
unfolding line_of
line-said text h = sym (said-whole (line_of []) text (omega arith) ∙ rw zero-add)
