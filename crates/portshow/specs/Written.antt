-- What a writer holds once a line is written to it: the text of the line behind what it held.
use Rattle.std.specs.Prelude.{ℕ, List, Option, take}
use Rattle.std.specs.Io.KnownBytes.{Appends}
use Rattle.page.specs.declared.line.Line.{Line}

abbrev pub WritesLine : Option (List ℕ) → Option (List ℕ) → Line → Type 0
WritesLine old new l = Appends old new (take l.len l.text)
