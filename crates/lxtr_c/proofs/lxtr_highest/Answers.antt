-- The number of what `highest` answers.
use Rattle.lxtr_spec.specs.HostNumbers.{highest_number}
use Rattle.lxtr_c.proofs.lxtr_highest.Goals as goal

pub returns : goal.returns
unfolding highest_number
returns c = rw (← c.highest.ensures) c.found_numbered.ensures
