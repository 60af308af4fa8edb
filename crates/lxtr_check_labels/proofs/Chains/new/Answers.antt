-- No label is in a chain yet.
use Rattle.lxtr_check_labels.specs.Chains.{chained_start}
use Rattle.lxtr_check_labels.proofs.Chains.new.Goals as goal

pub invariant_of-result : goal.invariant_of-result
invariant_of-result c = chained_start _
