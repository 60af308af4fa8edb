-- The label is in the image, at its position.
use Rattle.lxtr_image.specs.CodeSearch.{label_compared}
use Rattle.lxtr_image.proofs.Image.has_label.Goals as goal

pub returns : goal.returns
returns c = let h = rw c.self.view_is at c.be32_equals.ensures in label_compared _ _ _ c.label_position.ensures _ _ h
