-- The number of what `fault` answers.
use Rattle.lxtr_spec.specs.HostNumbers.{fault_number}
use Rattle.lxtr_c.proofs.lxtr_fault.Goals as goal

pub returns : goal.returns
unfolding fault_number
returns c = rw (← c.fault.ensures) c.fault_numbered.ensures
