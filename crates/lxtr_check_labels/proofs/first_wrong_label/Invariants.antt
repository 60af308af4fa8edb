-- No label before this one is wrong, and the chains have the labels before it.
use Rattle.std.proofs.Common.{◌≡◌, ◌<◌, ℕ, false}
use Rattle.lxtr_spec.specs.Refusals.{label_wrong}
use Rattle.lxtr_check_labels.proofs.first_wrong_label.Given as goal

abbrev pub invariant-loop-i : goal.invariant-loop-i
invariant-loop-i l = (l.chains ≡ (l.image, l.i)) × ((k : ℕ) → k < l.i → label_wrong l.image k ≡ false)
