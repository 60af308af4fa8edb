-- No place is used.
use Rattle.lxtr_spec.specs.Labels.{max_labels}
use Rattle.lxtr_search.specs.Places.{filled_none}
use Rattle.lxtr_search.proofs.matches.Prefixes.new.Goals as goal

pub invariant_of-result : goal.invariant_of-result
unfolding max_labels
invariant_of-result c = filled_none
