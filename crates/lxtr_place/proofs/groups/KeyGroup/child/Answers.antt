-- The label at the code's place in the order leads to the child.
use Rattle.std.proofs.Common.{rules}
use Rattle.lxtr_build_laws.specs.CodeTables.{label_by}
use Rattle.lxtr_place.proofs.groups.KeyGroup.child.Goals as goal

pub returns-clause-pairs_value : goal.returns-clause-pairs_value
unfolding label_by
returns-clause-pairs_value c = search rules
