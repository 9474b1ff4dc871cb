-- "The program `portshow` reads an image .. and prints `sent M live L potential P server S key K` ..; a refusal prints `refused 16`."
use Rattle.std.specs.Prelude.{List, ℕ, Result, Ok, Err}
use Rattle.base_facts.specs.declared.Refusal.{Refusal}
use Rattle.base_facts.specs.Refusal.{number_of}
use Rattle.participant.specs.declared.Participant.{Participant}
use Rattle.image_reading.specs.Read.{read_of}
use Rattle.page.specs.declared.line.Line.{Line}
use Rattle.page.specs.Text.{line_of, ended_of, refused_text}
use Rattle.page.specs.Status.{status_text}

abbrev pub answer_line : Participant → Result (Unit {0}) Refusal → Line
answer_line p (Ok _) = ended_of (line_of (status_text p))
answer_line p (Err why) = line_of (refused_text (number_of why))

-- The line of an image.
unfoldable pub shown_of : List ℕ → Line
shown_of s = answer_line (read_of s).participant (read_of s).answer
