-- The list of the words of all lines, or too many words.
use Rattle.std.proofs.Common.{◌∙◌, ap}
use Rattle.lxtr_command_spec.specs.WordLists.{keyed}
use Rattle.lxtr_laws.specs.SearchReturns.{passed_err}
use Rattle.lxtr_words.specs.ListReturns.{words_many}
use Rattle.lxtr_words.proofs.list_lines.Goals as goal

pub returns-in_err-words : goal.returns-in_err-words
returns-in_err-words c = rw (passed_err _ _ c.from_residual.ensures.1) (words_many c.args.text.now c.args.out.now _ c.in_err-words.ensures)

pub returns : goal.returns
returns c = c.put_list.ensures ∙ ap (λ ks. keyed ks c.args.out.now) c.in_ok-words.ensures
