-- Nothing or the step's line, depending on the parent.
use Rattle.lxtr_draw.specs.DrawnLines.{no_parent, parent_outside, step_put}
use Rattle.lxtr_draw.proofs.step_in.Goals as goal

pub returns-then-p-eq0 : goal.returns-then-p-eq0
returns-then-p-eq0 c = no_parent _ _ _ c.parent-p.ensures _ c.if-p-eq0.true

pub returns-then-slot_count-p : goal.returns-then-slot_count-p
returns-then-slot_count-p c = parent_outside _ _ _ c.parent-p.ensures _ _ c.slot_count.ensures.value c.if-slot_count-p.true

pub returns : goal.returns
returns c = step_put _ _ _ c.parent-p.ensures _ _ c.slot_count.ensures.value c.if-p-eq0.false c.if-slot_count-p.false _ _ c.step_line.ensures
