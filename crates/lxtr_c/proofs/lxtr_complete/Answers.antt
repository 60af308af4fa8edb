-- The number of what `complete` answers, and the room as it leaves it.
use Rattle.lxtr_spec.specs.HostNumbers.{host_completion_of, completion_number}
use Rattle.lxtr_c.proofs.lxtr_complete.Goals as goal

pub returns-in-Ok : goal.returns-in-Ok
unfolding host_completion_of completion_number
returns-in-Ok c = rw (← c.in-Ok.ensures, c.host_number.ensures)

pub returns-in-Err : goal.returns-in-Err
unfolding host_completion_of completion_number
returns-in-Err c = rw (← c.in-Err.ensures, c.host_number-in-Err.ensures, c.number.ensures)
