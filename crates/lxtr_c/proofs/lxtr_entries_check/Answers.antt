-- The number of what `check_table` answers.
use Rattle.lxtr_entries_spec.specs.HostEntries.{table_number}
use Rattle.lxtr_c.proofs.lxtr_entries_check.Goals as goal

pub returns : goal.returns
unfolding table_number
returns c = rw (← c.check_table.ensures) c.count_numbered.ensures
