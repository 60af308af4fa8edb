-- What is still to come of the bytes.
use Rattle.std.proofs.Common.{◌≡◌, drop}
use Rattle.lxtr_text.specs.Writing.{wrote}
use Rattle.lxtr_text.proofs.line.Line.push_all.Given as goal

abbrev pub invariant-loop-x : goal.invariant-loop-x
invariant-loop-x l = wrote l.self (drop l.x-index l.bytes) ≡ wrote l.initial.self l.bytes
