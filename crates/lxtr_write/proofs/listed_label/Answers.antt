-- The order gives a place of the table, and the label is there.
use Rattle.lxtr_write.specs.SectionWriting.{ordered, label_listed}
use Rattle.lxtr_write.proofs.listed_label.Goals as goal

pub returns : goal.returns
returns c = search (label_listed, ordered c.args.tables.now.right)
