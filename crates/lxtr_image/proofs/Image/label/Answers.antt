-- The label is in the image, at its position.
use Rattle.lxtr_image.specs.CodeSearch.{label_read}
use Rattle.lxtr_image.proofs.Image.label.Goals as goal

pub returns : goal.returns
returns c = let h = rw c.self.view_is at c.be32_at.ensures in label_read _ _ _ c.label_position.ensures _ h
