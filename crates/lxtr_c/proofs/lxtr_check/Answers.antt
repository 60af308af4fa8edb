-- The number of what `check` answers.
use Rattle.lxtr_spec.specs.HostNumbers.{check_number}
use Rattle.lxtr_c.proofs.lxtr_check.Goals as goal

pub returns : goal.returns
unfolding check_number
returns c = rw (← c.check.ensures) c.count_numbered.ensures
