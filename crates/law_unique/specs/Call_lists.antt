-- The public functions of `call_lists`. Written by tools/unique.
use Rattle.std.specs.Prelude.{refl}
use Rattle.call_lists.proofs as call_lists
use Rattle.call_lists.specs.contracts as contracts
use Rattle.law_unique.specs.Law.{AsksNothing, OneAnswer, OneSeen, same}

pub call-lists·put-list·asks-nothing : AsksNothing contracts.put_list.signature call_lists.put_list.Reads.requires
call-lists·put-list·asks-nothing κs a w = refl

pub call-lists·put-list : OneAnswer call_lists.put_list.Kinds.ps call_lists.put_list.Kinds.r call_lists.put_list.Reads.Learnt
call-lists·put-list κs a z z' e e' h h' = same h.0 h'.0

pub call-lists·put-list·left : OneSeen call_lists.put_list.Kinds.ps call_lists.put_list.Kinds.r call_lists.put_list.Reads.Learnt (λ κs z e. e.0.now)
call-lists·put-list·left κs a z z' e e' h h' = same h.1 h'.1
