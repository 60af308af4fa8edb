-- The entry's line from the slot in whose list it lies.
use Rattle.lxtr_draw.specs.DrawnLines.{entry_drawn}
use Rattle.lxtr_draw.proofs.entry_text.Goals as goal

pub returns : goal.returns
returns c = entry_drawn _ _ _ _ _ c.requires.p_value c.is_wrong_entry.ensures _ _ _ c.entry_line.ensures
