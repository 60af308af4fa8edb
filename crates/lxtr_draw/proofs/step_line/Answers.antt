-- The form is that of the definition, depending on the code.
use Rattle.lxtr_command_spec.specs.Commands.{ascii_from, ascii}
use Rattle.lxtr_draw.specs.DrawnLines.{end_step, listed_step, unlisted_step}
use Rattle.lxtr_draw.proofs.step_line.Goals as goal

pub returns-then-code-eq0 : goal.returns-then-code-eq0
unfolding ascii_from ascii
returns-then-code-eq0 c = end_step _ _ _ _ c.code_to-code.ensures _ _ _ c.if-code-eq0.true c.fill.ensures

pub returns-then-code-label_count : goal.returns-then-code-label_count
unfolding ascii_from ascii
returns-then-code-label_count c =
    listed_step _ _ _ _ c.code_to-code.ensures _ _ _ c.if-code-eq0.false _ c.label_count.ensures.value c.if-code-label_count.true _ c.label-label.ensures c.fill-then-code-label_count.ensures

pub returns : goal.returns
unfolding ascii_from ascii
returns c = unlisted_step _ _ _ _ c.code_to-code.ensures _ _ _ c.if-code-eq0.false _ c.label_count.ensures.value c.if-code-label_count.false c.fill-2.ensures
