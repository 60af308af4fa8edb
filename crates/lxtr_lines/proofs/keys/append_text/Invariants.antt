-- What is still to come of the labels.
use Rattle.std.proofs.Common.{◌≡◌}
use Rattle.lxtr_spec.specs.Labels.{labels_of}
use Rattle.lxtr_command_spec.specs.Forms.{shown_all}
use Rattle.lxtr_text.specs.Writing.{wrote}
use Rattle.lxtr_lines.proofs.keys.append_text.Given as goal

abbrev pub invariant-loop-label : goal.invariant-loop-label
invariant-loop-label l = wrote l.line (shown_all l.label-iterator) ≡ wrote l.initial.line (shown_all (labels_of l.labels))
