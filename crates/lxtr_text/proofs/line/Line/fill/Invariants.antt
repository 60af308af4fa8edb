-- What is still to come of the form, with the numbers that are left.
use Rattle.std.proofs.Common.{◌≡◌, drop}
use Rattle.lxtr_command_spec.specs.Forms.{filled}
use Rattle.lxtr_text.specs.Writing.{wrote}
use Rattle.lxtr_text.proofs.line.Line.fill.Given as goal

abbrev pub invariant-loop-mark : goal.invariant-loop-mark
invariant-loop-mark l = wrote l.self (filled (drop l.mark-index l.form) l.left) ≡ wrote l.initial.self (filled l.form l.initial.left)
