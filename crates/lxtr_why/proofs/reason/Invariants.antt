-- What the whole query gives from slot 1 is what the labels that are left give from slot n.
use Rattle.std.proofs.Common.{◌≡◌, ◌<◌, ◌≤◌, ◌+◌, length}
use Rattle.lxtr_spec.specs.Labels.{max_labels, labels_of}
use Rattle.lxtr_spec.specs.Image.{slot_count}
use Rattle.lxtr_spec.specs.Reasons.{reason_from}
use Rattle.lxtr_why.proofs.reason.Given as goal

abbrev pub invariant-loop-i : goal.invariant-loop-i
invariant-loop-i l = (l.n < slot_count l.image) × (l.i-iterator.count + length l.i-iterator.iter ≤ max_labels)
    × (reason_from l.image 0 1 (labels_of l.query) ≡ reason_from l.image l.i-iterator.count l.n l.i-iterator.iter)
