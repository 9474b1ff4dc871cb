-- "a reader over one frame is offered that remembers its position and hands out the further sets as the walk does, none where facts 2 to 5 hold"
use Rattle.std.specs.Prelude.{ℕ, cond, leb, Option, Some, None, Result, Ok, Err}
use mathlib.Core.List as core
use Rattle.std.specs.Borrow.{Bor}
use Rattle.base_facts.specs.declared.Refusal.{Refusal}
use Rattle.frame.specs.Basic.{basic_of}
use Rattle.frame.specs.declared.Basic.{Basic}
use Rattle.frame_places.specs.Once.{no_places}
use Rattle.frame_sets.specs.Set.{bad_set, set_fields}
use Rattle.frame_walk.specs.Walk.{next_at, places_after}
use Rattle.frame_reader.specs.declared.step.Position.{Position}
use Rattle.frame_reader.specs.declared.step.Next.{Next}
use Rattle.frame_reader.specs.declared.step.Next.TheVariants.{Set, End, Bad, Refused}
use Rattle.frame_reader.specs.declared.step.Stepped.{Stepped}
use Rattle.frame_reader.specs.declared.Reader.{Reader}

-- where the first further set stands, and where the ICV does
abbrev pub start_at : Basic → Position
start_at b = record { refused = None; at = b.next; stop = b.stop; seen = no_places }

-- no set is to be had, by the fact that a frame is refused for
abbrev pub start_none : Refusal → Position
start_none why = record { refused = Some why; at = 0; stop = 0; seen = no_places }

abbrev pub start_after : Result Basic Refusal → Position
start_after (Ok b) = start_at b
start_after (Err why) = start_none why

-- "none where facts 2 to 5 hold": the position before the first further set of a frame
unfoldable pub start_of : core.List ℕ → Position
start_of s = start_after (basic_of s)

-- the position past the set that stands there
abbrev pub passed_of : core.List ℕ → Position → Position
passed_of s p = record { refused = None; at = next_at s p.at; stop = p.stop; seen = places_after s p.at p.seen }

abbrev pub stays : Next → Position → Stepped
stays n p = record { next = n; after = p }

-- "as the walk does": none by facts 2 to 5, at the end, and at a bad set, where the position stays; else the set, and the position past it
abbrev pub step_by : Option Refusal → core.List ℕ → Position → Stepped
step_by (Some why) s p = stays (Refused why) p
step_by None s p =
    cond (leb p.stop p.at) (stays End p)
    (cond (bad_set s p.at p.stop p.seen) (stays (Bad p.at) p)
    (record { next = Set (set_fields s p.at); after = passed_of s p }))

unfoldable pub step_of : core.List ℕ → Position → Stepped
step_of s p = step_by p.refused s p

-- the reader over a frame, before its first further set
abbrev pub reader_over : Bor (core.List ℕ) → Reader
reader_over f = record { frame = f; position = start_of f.now }

-- what a reader hands out when asked
abbrev pub next_of : Reader → Next
next_of r = (step_of r.frame.now r.position).next

-- "remembers its position": the reader after it was asked
abbrev pub moved : Reader → Reader
moved r = record { frame = r.frame; position = (step_of r.frame.now r.position).after }

-- what the reader over a frame hands out first
abbrev pub first_next : core.List ℕ → Next
first_next s = (step_of s (start_of s)).next
