-- The labels at the front of the path, and those that are left, are the labels of the query.
use Rattle.std.proofs.Common.{◌≡◌, ◌+◌, ◌++◌, length, take}
use Rattle.lxtr_spec.specs.Labels.{labels_of}
use Rattle.lxtr_complete.proofs.fill_path.Given as goal

abbrev pub invariant-loop-i : goal.invariant-loop-i
invariant-loop-i l = (take l.i-iterator.count l.path ++ l.i-iterator.iter ≡ labels_of l.query) × (l.i-iterator.count + length l.i-iterator.iter ≡ length (labels_of l.query))
