-- Lengths of the own record and its parts.
use mathlib.Core.Path.{◌≡◌}
use lib.ListN.{length, length-append}
use Rattle.base_octets.proofs.Laws.{length-be_of}
use Rattle.base_mi.proofs.Laws.{length-mi}
use Rattle.participant.specs.declared.Participant.{Participant}
use Rattle.image_own.specs.Own.{named_octets, times_octets, kept_octets, own_octets}

pub length-named : (p : Participant) → length (named_octets p) ≡ 28
unfolding named_octets
length-named p = simp (length-append, length-be_of, length-mi)

pub length-times : (p : Participant) → length (times_octets p) ≡ 28
unfolding times_octets
length-times p = simp (length-append, length-be_of)

pub length-own : (p : Participant) → length p.ckn ≡ 32 → length p.wrapped ≡ 24 → length (own_octets p) ≡ 116
unfolding own_octets kept_octets
length-own p ckn wrapped = simp (length-append, length-named, length-times, length-be_of, ckn, wrapped)
