-- The form is that of the definition.
use Rattle.lxtr_command_spec.specs.Commands.{ascii_from, ascii}
use Rattle.lxtr_draw.specs.DrawnLines.{entry_put}
use Rattle.lxtr_draw.proofs.entry_line.Goals as goal

pub returns : goal.returns
unfolding ascii_from ascii
returns c = entry_put _ _ _ _ _ _ c.colour-tint.ensures c.child_at-child.ensures _ _ _ c.fill.ensures
