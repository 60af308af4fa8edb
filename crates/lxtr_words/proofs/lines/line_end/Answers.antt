-- As long as the line is.
use Rattle.lxtr_words.specs.TextLines.{line_to}
use Rattle.lxtr_words.proofs.lines.line_end.Goals as goal

pub returns : goal.returns
returns c = rw c.line_at.ensures (line_to c.args.text.now c.args.at c.requires)
