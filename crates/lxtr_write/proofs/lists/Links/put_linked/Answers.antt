-- Each turn lays one offset after the offsets and one list after the lists; the last offset comes after the loop.
use Rattle.lxtr_write.specs.ListWriting.{lists_start, lists_fit, lists_room, lists_next, lists_end}
use Rattle.lxtr_write.proofs.lists.Links.put_linked.Goals as goal

pub loop-p-init : goal.loop-p-init
loop-p-init c = search lists_start

pub overflow_cast-e : goal.overflow_cast-e
overflow_cast-e c = search lists_fit

pub put_list-e-requires-clause-p_in_bounds : goal.put_list-e-requires-clause-p_in_bounds
put_list-e-requires-clause-p_in_bounds c = search lists_room

pub loop-p-preserved : goal.loop-p-preserved
loop-p-preserved c = search lists_next

pub overflow_cast-e-2 : goal.overflow_cast-e-2
overflow_cast-e-2 c = search lists_fit

pub returns : goal.returns
returns c = search lists_end
