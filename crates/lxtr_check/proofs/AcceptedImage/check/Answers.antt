-- The header of an image is right; if nothing after it is refused, nothing is.
use Rattle.lxtr_check.specs.Checks.{none_refused_by}
use Rattle.lxtr_check.proofs.AcceptedImage.check.Goals as goal

pub invariant_of-result : goal.invariant_of-result
invariant_of-result c = rw c.bytes.ensures.value (none_refused_by _ c.requires c.in_ok-check_body.ensures)
