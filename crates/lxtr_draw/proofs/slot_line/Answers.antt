-- The form is that of the definition, one for an end and one for any other slot.
use Rattle.lxtr_command_spec.specs.Commands.{ascii_from, ascii}
use Rattle.lxtr_draw.specs.DrawnLines.{end_line, inner_line}
use Rattle.lxtr_draw.proofs.slot_line.Goals as goal

pub returns-then-is_leaf_at : goal.returns-then-is_leaf_at
unfolding ascii_from ascii
returns-then-is_leaf_at c = end_line _ _ _ _ _ c.parent_at-parent.ensures c.colour-tint.ensures _ c.is_leaf_at.ensures _ _ _ c.if-is_leaf_at.true _ c.value_number_at-value.ensures c.fill.ensures

pub returns : goal.returns
unfolding ascii_from ascii
returns c = inner_line _ _ _ _ _ c.parent_at-parent.ensures c.colour-tint.ensures _ c.is_leaf_at.ensures _ _ _ c.if-is_leaf_at.false _ c.base_at-base.ensures _ c.borders-count.ensures c.fill-2.ensures
