-- The word of that line.
use Rattle.std.proofs.Common.{◌∙◌, ap}
use Rattle.lxtr_command_spec.specs.WordLists.{word_of}
use Rattle.lxtr_words.specs.TextLines.{word_at}
use Rattle.lxtr_words.proofs.lines.word_at.Goals as goal

pub returns : goal.returns
unfolding word_at
returns c = c.word_of.ensures ∙ ap word_of c.line_at.ensures
