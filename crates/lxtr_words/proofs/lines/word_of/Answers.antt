-- What is cut off is a carriage return.
use Rattle.std.proofs.Common.{◌∙◌, ap}
use Rattle.lxtr_words.specs.TextLines.{stripped}
use Rattle.lxtr_words.proofs.lines.word_of.Goals as goal

pub returns : goal.returns
returns c = ap (λ b. b.now) c.unwrap_or.ensures ∙ stripped c.args.line _ c.strip_suffix.ensures.cases
