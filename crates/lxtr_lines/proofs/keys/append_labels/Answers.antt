-- One label more, and at the end none is left.
use Rattle.lxtr_text.specs.Writing.{next_written, none_written}
use Rattle.lxtr_lines.specs.KeyLines.{label_pieces}
use Rattle.lxtr_lines.proofs.keys.append_labels.Goals as goal

pub loop-label-preserved : goal.loop-label-preserved
loop-label-preserved c = next_written label_pieces c.args.line.now _ _ _ c.loop-label.invariant _ _ _ c.in-Some.ensures.steps c.append_label.ensures

pub returns : goal.returns
returns c = none_written label_pieces c.args.line.now _ _ _ c.loop-label.invariant c.in-None.ensures.steps.0
