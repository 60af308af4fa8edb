-- A label that is not a scalar value is wrong; for a scalar value the chain decides.
use Rattle.std.proofs.Common.{rules}
use Rattle.lxtr_check_labels.specs.Chains.{label_no_scalar, label_by_chain}
use Rattle.lxtr_check_labels.proofs.Chains.is_wrong.Goals as goal

pub returns-then-not-is_scalar : goal.returns-then-not-is_scalar
returns-then-not-is_scalar c = search (label_no_scalar, rules)

pub returns-else-not-is_scalar : goal.returns-else-not-is_scalar
returns-else-not-is_scalar c = search (label_by_chain, rules)
