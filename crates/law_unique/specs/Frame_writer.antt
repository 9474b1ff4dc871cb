-- The public functions of `frame_writer`. Written by tools/unique.
use Rattle.std.specs.Prelude.{refl}
use Rattle.frame_writer.proofs as frame_writer
use Rattle.frame_writer.specs.contracts as contracts
use Rattle.law_unique.specs.Law.{AsksNothing, OneAnswer, OneSeen, same}

pub frame-writer·frame-size·asks-nothing : AsksNothing contracts.frame_size.signature frame_writer.frame_size.Reads.requires
frame-writer·frame-size·asks-nothing κs a w = refl

pub frame-writer·frame-size : OneAnswer frame_writer.frame_size.Kinds.ps frame_writer.frame_size.Kinds.r frame_writer.frame_size.Reads.Learnt
frame-writer·frame-size κs a z z' e e' h h' = same h h'

pub frame-writer·put-start·asks-nothing : AsksNothing contracts.put_start.signature frame_writer.put_start.Reads.requires
frame-writer·put-start·asks-nothing κs a w = refl

pub frame-writer·put-start : OneAnswer frame_writer.put_start.Kinds.ps frame_writer.put_start.Kinds.r frame_writer.put_start.Reads.Learnt
frame-writer·put-start κs a z z' e e' h h' = same h.0 h'.0

pub frame-writer·put-start·left : OneSeen frame_writer.put_start.Kinds.ps frame_writer.put_start.Kinds.r frame_writer.put_start.Reads.Learnt (λ κs z e. e.0.now)
frame-writer·put-start·left κs a z z' e e' h h' = same h.1 h'.1

pub frame-writer·put-list-head·asks-nothing : AsksNothing contracts.put_list_head.signature frame_writer.put_list_head.Reads.requires
frame-writer·put-list-head·asks-nothing κs a w = refl

pub frame-writer·put-list-head : OneSeen frame_writer.put_list_head.Kinds.ps frame_writer.put_list_head.Kinds.r frame_writer.put_list_head.Reads.Learnt (λ κs z e. e.0.now)
frame-writer·put-list-head κs a z z' e e' h h' = same h h'

pub frame-writer·put-end·asks-nothing : AsksNothing contracts.put_end.signature frame_writer.put_end.Reads.requires
frame-writer·put-end·asks-nothing κs a w = refl

pub frame-writer·put-end : OneSeen frame_writer.put_end.Kinds.ps frame_writer.put_end.Kinds.r frame_writer.put_end.Reads.Learnt (λ κs z e. e.0.now)
frame-writer·put-end κs a z z' e e' h h' = same h h'

pub frame-writer·write·asks-nothing : AsksNothing contracts.write.signature frame_writer.write.Reads.requires
frame-writer·write·asks-nothing κs a w = refl

pub frame-writer·write : OneAnswer frame_writer.write.Kinds.ps frame_writer.write.Kinds.r frame_writer.write.Reads.Learnt
frame-writer·write κs a z z' e e' h h' = same h.0 h'.0

pub frame-writer·write·left : OneSeen frame_writer.write.Kinds.ps frame_writer.write.Kinds.r frame_writer.write.Reads.Learnt (λ κs z e. e.0.now)
frame-writer·write·left κs a z z' e e' h h' = same h.1 h'.1
