-- Slot 0 and an end leave the output as it is; the list of any other slot is its children by all codes.
use Rattle.lxtr_write.specs.ListWriting.{list_skipped, list_room, list_put}
use Rattle.lxtr_write.proofs.lists.Links.put_list.Goals as goal

pub returns-then-p-self : goal.returns-then-p-self
returns-then-p-self c = search list_skipped

pub put_children-requires-clause-p_in_bounds : goal.put_children-requires-clause-p_in_bounds
put_children-requires-clause-p_in_bounds c = search list_room

pub returns : goal.returns
returns c = search list_put
