-- The number of what `lookup` answers.
use Rattle.lxtr_spec.specs.HostNumbers.{probe_number}
use Rattle.lxtr_c.proofs.lxtr_probe.Goals as goal

pub returns : goal.returns
unfolding probe_number
returns c = rw (← c.lookup.ensures) c.case_numbered.ensures
