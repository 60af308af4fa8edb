-- The value, the labels and the end of the line, one after the other.
use Rattle.std.proofs.Common.{arith, rules}
use Rattle.std.proofs.lemmas.Grind.{common_steps}
use Rattle.lxtr_spec.specs.Lines.{pair_line}
use Rattle.lxtr_text.specs.Writing.{line_filled}
use Rattle.lxtr_lines.specs.KeyLines.{three_written}
use Rattle.lxtr_lines.proofs.pair_line.Goals as goal

pub returns : goal.returns
unfolding pair_line
returns c =
    let labels = rw c.of.ensures at c.append_labels.ensures in
    line_filled c.args.line.now _ _ _ c.new-out.result c.push.new.self (search rules) c.new-out.ensures.end (three_written _ _ _ _ _ _ _ c.decimal.ensures labels c.push.ensures)
    (grind (arith, common_steps)) c.len.ensures
