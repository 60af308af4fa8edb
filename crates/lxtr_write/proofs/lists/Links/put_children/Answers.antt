use Rattle.lxtr_write.specs.ListWriting.{follow_start, follow_less, follow_next, follow_end}
use Rattle.lxtr_write.proofs.lists.Links.put_children.Goals as goal

pub loop-t-init : goal.loop-t-init
loop-t-init c = search follow_start

pub loop-t-smaller : goal.loop-t-smaller
loop-t-smaller c = search follow_less

pub loop-t-preserved : goal.loop-t-preserved
loop-t-preserved c = search follow_next

pub returns : goal.returns
returns c = search follow_end
