-- If nothing is refused, nothing of the header is, and the facts hold.
use Rattle.lxtr_laws.specs.Passed.{header_passed}
use Rattle.lxtr_laws.specs.Faults.{accepted, parts_pass}
use Rattle.lxtr_check.proofs.AcceptedImage.image.Goals as goal

pub new-requires : goal.new-requires
new-requires c = header_passed (parts_pass _ c.self.invariant).0

pub returns-clause-accepted : goal.returns-clause-accepted
returns-clause-accepted c = rw (← c.self.view_is) ((accepted _).0 c.self.invariant)
