-- The number of what the lookup of the position answers.
use Rattle.lxtr_spec.specs.HostNumbers.{position_probe_number}
use Rattle.lxtr_c.proofs.lxtr_position_probe.Goals as goal

pub returns : goal.returns
unfolding position_probe_number
returns c = rw (← c.from.ensures, ← c.lookup.ensures) c.case_numbered.ensures
