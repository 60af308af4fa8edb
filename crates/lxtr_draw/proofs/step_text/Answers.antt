-- The image is these bytes.
use Rattle.lxtr_draw.proofs.step_text.Goals as goal

pub returns : goal.returns
returns c = rw c.new.ensures at c.step_in.ensures
