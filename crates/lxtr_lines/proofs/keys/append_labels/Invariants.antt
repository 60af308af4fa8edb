-- What is still to come of the labels.
use Rattle.std.proofs.Common.{◌≡◌}
use Rattle.lxtr_spec.specs.Lines.{labels_text}
use Rattle.lxtr_text.specs.Writing.{wrote}
use Rattle.lxtr_lines.proofs.keys.append_labels.Given as goal

abbrev pub invariant-loop-label : goal.invariant-loop-label
invariant-loop-label l = wrote l.line (labels_text l.label-iterator) ≡ wrote l.initial.line (labels_text l.fn.labels)
