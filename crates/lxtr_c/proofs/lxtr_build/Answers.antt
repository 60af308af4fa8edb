-- The number of what `build` answers, and the lent memory as it leaves it.
use Rattle.lxtr_spec.specs.HostNumbers.{host_build_of, built_number}
use Rattle.lxtr_c.proofs.lxtr_build.Goals as goal

pub returns : goal.returns
unfolding host_build_of built_number
returns c = rw (← c.build.ensures, ← c.count_numbered.ensures)
