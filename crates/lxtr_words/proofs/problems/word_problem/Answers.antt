-- The count of the labels decides: the word is not UTF-8, or has too many labels, or has no problem.
use Rattle.lxtr_spec.specs.Labels.{max_labels}
use Rattle.lxtr_words.specs.Problems.{found_wrong, found_long, found_none}
use Rattle.lxtr_words.proofs.problems.word_problem.Goals as goal

pub returns-in-Err : goal.returns-in-Err
returns-in-Err c = found_wrong c.args.word.now c.args.line _ c.in-Err.ensures

pub returns-in-Ok : goal.returns-in-Ok
unfolding max_labels
returns-in-Ok c = found_long c.args.word.now c.args.line _ c.in-Ok.ensures c.if-count-gt-MAX_LABELS.true

pub returns-in-Ok-2 : goal.returns-in-Ok-2
unfolding max_labels
returns-in-Ok-2 c = found_none c.args.word.now c.args.line _ c.in-Ok.ensures c.if-count-gt-MAX_LABELS.false
