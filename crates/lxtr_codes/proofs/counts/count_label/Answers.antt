use Rattle.lxtr_codes.specs.LabelCounting.{count_put}
use Rattle.lxtr_codes.proofs.counts.count_label.Goals as goal

pub returns : goal.returns
returns c = search count_put
