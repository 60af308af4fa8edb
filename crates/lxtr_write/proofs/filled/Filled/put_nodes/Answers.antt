use Rattle.lxtr_laws.specs.ByteOrders.{little}
use Rattle.lxtr_laws.specs.Overlays.{words_start}
use Rattle.lxtr_write.specs.SectionWriting.{nodes_next, nodes_end}
use Rattle.lxtr_write.proofs.filled.Filled.put_nodes.Goals as goal

pub loop-i-init : goal.loop-i-init
loop-i-init c = search (words_start little)

pub loop-i-preserved : goal.loop-i-preserved
loop-i-preserved c = search nodes_next

pub returns : goal.returns
returns c = search nodes_end
