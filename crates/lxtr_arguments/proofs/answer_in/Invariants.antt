-- The rows that are left decide.
use Rattle.std.proofs.Common.{◌≡◌, drop}
use Rattle.lxtr_arguments.specs.Rows.{answer_in}
use Rattle.lxtr_arguments.proofs.answer_in.Given as goal

abbrev pub invariant-loop-text : goal.invariant-loop-text
invariant-loop-text l = answer_in (drop l.text-index l.table) l.name l.count ≡ answer_in l.table l.name l.count
