-- The number of what `why` answers.
use Rattle.lxtr_spec.specs.HostNumbers.{why_number}
use Rattle.lxtr_c.proofs.lxtr_why.Goals as goal

pub returns : goal.returns
unfolding why_number
returns c = rw (← c.why.ensures) c.why_numbered.ensures
