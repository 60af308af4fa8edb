-- What is still to come of the bytes.
use Rattle.std.proofs.Common.{◌≡◌, drop}
use Rattle.lxtr_command_spec.specs.Forms.{bytes_text}
use Rattle.lxtr_text.specs.Writing.{wrote}
use Rattle.lxtr_lines.proofs.append_bytes.Given as goal

abbrev pub invariant-loop-x : goal.invariant-loop-x
invariant-loop-x l = wrote l.line (bytes_text (drop l.x-index l.bytes)) ≡ wrote l.initial.line (bytes_text l.bytes)
