-- The label is listed before the next place exactly when it is at the place of `entry` or at an earlier place of its chain.
use Rattle.lxtr_check_labels.specs.Chains.{Looking}
use Rattle.lxtr_check_labels.proofs.Chains.has.Given as goal

abbrev pub invariant-loop-entry : goal.invariant-loop-entry
invariant-loop-entry l = Looking l.self-inside.image.now l.self-inside.count l.entry

abbrev pub decreases-loop-entry : goal.decreases-loop-entry
decreases-loop-entry l = l.entry
