use Rattle.lxtr_laws.specs.ByteOrders.{big}
use Rattle.lxtr_laws.specs.Overlays.{words_start}
use Rattle.lxtr_write.specs.SectionWriting.{label_next, labels_end}
use Rattle.lxtr_write.proofs.put_labels.Goals as goal

pub loop-j-init : goal.loop-j-init
loop-j-init c = search (words_start big)

pub loop-j-preserved : goal.loop-j-preserved
loop-j-preserved c = search label_next

pub returns : goal.returns
returns c = search labels_end
