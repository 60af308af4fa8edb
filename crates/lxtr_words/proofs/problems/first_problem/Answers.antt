-- The line at hand decides, or those after it.
use Rattle.std.proofs.Common.{sym, ap, ◌∙◌}
use Rattle.lxtr_command_spec.specs.WordLists.{word_of}
use Rattle.lxtr_words.specs.TextLines.{word_at, line_to}
use Rattle.lxtr_words.specs.Problems.{problem_start, problem_here, problem_next, problem_none}
use Rattle.lxtr_words.proofs.problems.first_problem.Goals as goal

pub loop-at-init : goal.loop-at-init
loop-at-init c = problem_start c.args.text.now

pub returns-then-is_some : goal.returns-then-is_some
unfolding word_at
returns-then-is_some c =
    problem_here c.args.text.now _ _ c.loop-at.invariant c.loop-at-test.true _ (c.word_of.ensures ∙ ap word_of c.line_at-line.ensures) _ c.word_problem-problem.ensures (sym c.is_some.ensures ∙ c.if-is_some.true)

pub loop-at-preserved : goal.loop-at-preserved
unfolding word_at
loop-at-preserved c =
    problem_next c.args.text.now _ _ c.loop-at.invariant c.loop-at-test.true _ (c.word_of.ensures ∙ ap word_of c.line_at-line.ensures) _ c.word_problem-problem.ensures _ (sym c.is_some.ensures ∙ c.if-is_some.false) (rw c.line_at-line.ensures (line_to c.args.text.now _ c.loop-at-test.true))

pub returns : goal.returns
returns c = problem_none c.args.text.now _ _ c.loop-at.invariant c.loop-at-test.false
