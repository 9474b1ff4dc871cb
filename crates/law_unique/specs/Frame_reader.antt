-- The public functions of `frame_reader`. Written by tools/unique.
use Rattle.std.specs.Prelude.{refl}
use Rattle.frame_reader.proofs as frame_reader
use Rattle.frame_reader.specs.contracts as contracts
use Rattle.law_unique.specs.Law.{AsksNothing, OneAnswer, OneSeen, same}

pub frame-reader·over·asks-nothing : AsksNothing contracts.over.signature frame_reader.over.Reads.requires
frame-reader·over·asks-nothing κs a w = refl

pub frame-reader·over : OneAnswer frame_reader.over.Kinds.ps frame_reader.over.Kinds.r frame_reader.over.Reads.Learnt
frame-reader·over κs a z z' e e' h h' = same h h'

pub frame-reader·next·asks-nothing : AsksNothing contracts.next.signature frame_reader.next.Reads.requires
frame-reader·next·asks-nothing κs a w = refl

pub frame-reader·next : OneAnswer frame_reader.next.Kinds.ps frame_reader.next.Kinds.r frame_reader.next.Reads.Learnt
frame-reader·next κs a z z' e e' h h' = same h.0 h'.0

pub frame-reader·next·left : OneSeen frame_reader.next.Kinds.ps frame_reader.next.Kinds.r frame_reader.next.Reads.Learnt (λ κs z e. e.0.now)
frame-reader·next·left κs a z z' e e' h h' = same h.1 h'.1

pub frame-reader·first·asks-nothing : AsksNothing contracts.first.signature frame_reader.first.Reads.requires
frame-reader·first·asks-nothing κs a w = refl

pub frame-reader·first : OneAnswer frame_reader.first.Kinds.ps frame_reader.first.Kinds.r frame_reader.first.Reads.Learnt
frame-reader·first κs a z z' e e' h h' = same h h'

pub frame-reader·step·start·asks-nothing : AsksNothing contracts.step.start.signature frame_reader.step.start.Reads.requires
frame-reader·step·start·asks-nothing κs a w = refl

pub frame-reader·step·start : OneAnswer frame_reader.step.start.Kinds.ps frame_reader.step.start.Kinds.r frame_reader.step.start.Reads.Learnt
frame-reader·step·start κs a z z' e e' h h' = same h h'

pub frame-reader·step·step·asks-nothing : AsksNothing contracts.step.step.signature frame_reader.step.step.Reads.requires
frame-reader·step·step·asks-nothing κs a w = refl

pub frame-reader·step·step : OneAnswer frame_reader.step.step.Kinds.ps frame_reader.step.step.Kinds.r frame_reader.step.step.Reads.Learnt
frame-reader·step·step κs a z z' e e' h h' = same h h'
