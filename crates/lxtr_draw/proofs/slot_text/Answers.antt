-- Nothing or the slot's line, by the test of the definition.
use Rattle.lxtr_draw.specs.DrawnLines.{slot_left_out, slot_put}
use Rattle.lxtr_draw.proofs.slot_text.Goals as goal

pub returns-then-not-is_drawn : goal.returns-then-not-is_drawn
returns-then-not-is_drawn c = slot_left_out _ _ _ _ c.is_drawn.ensures _ c.if-not-is_drawn.true

pub returns : goal.returns
returns c = slot_put _ _ _ _ c.is_drawn.ensures _ c.if-not-is_drawn.false _ c.is_wrong_slot.ensures _ _ c.slot_line.ensures
