-- The remainder modulo the number of chains.
use Rattle.std.proofs.Common.{refl}
use Rattle.lxtr_check_labels.specs.Chains.{chain_of}
use Rattle.lxtr_check_labels.proofs.chain_of.Goals as goal

pub returns-clause-value : goal.returns-clause-value
unfolding chain_of
returns-clause-value c = refl
