-- The public functions of `frame`. Written by tools/unique.
use Rattle.std.specs.Prelude.{refl}
use Rattle.frame.proofs as frame
use Rattle.frame.specs.contracts as contracts
use Rattle.law_unique.specs.Law.{AsksNothing, OneAnswer, same}

pub frame·read-basic·asks-nothing : AsksNothing contracts.read_basic.signature frame.read_basic.Reads.requires
frame·read-basic·asks-nothing κs a w = refl

pub frame·read-basic : OneAnswer frame.read_basic.Kinds.ps frame.read_basic.Kinds.r frame.read_basic.Reads.Learnt
frame·read-basic κs a z z' e e' h h' = same h h'

pub frame·ours·name-ours·asks-nothing : AsksNothing contracts.ours.name_ours.signature frame.ours.name_ours.Reads.requires
frame·ours·name-ours·asks-nothing κs a w = refl

pub frame·ours·name-ours : OneAnswer frame.ours.name_ours.Kinds.ps frame.ours.name_ours.Kinds.r frame.ours.name_ours.Reads.Learnt
frame·ours·name-ours κs a z z' e e' h h' = same h h'

pub frame·ours·agility-ours·asks-nothing : AsksNothing contracts.ours.agility_ours.signature frame.ours.agility_ours.Reads.requires
frame·ours·agility-ours·asks-nothing κs a w = refl

pub frame·ours·agility-ours : OneAnswer frame.ours.agility_ours.Kinds.ps frame.ours.agility_ours.Kinds.r frame.ours.agility_ours.Reads.Learnt
frame·ours·agility-ours κs a z z' e e' h h' = same h h'
