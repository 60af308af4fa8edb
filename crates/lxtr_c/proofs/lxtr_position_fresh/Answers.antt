-- The number of the fresh position.
use Rattle.lxtr_spec.specs.HostNumbers.{host_fresh}
use Rattle.lxtr_c.proofs.lxtr_position_fresh.Goals as goal

pub returns : goal.returns
unfolding host_fresh
returns c = rw (← c.fresh.ensures) c.from.ensures
