-- The number of what `locate` answers, and the place in word 0. After a refusal the words stay as they are.
use Rattle.std.specs.Prelude.{[], ◌∷◌}
use Rattle.lxtr_spec.specs.Refusals.{unless_refused}
use Rattle.lxtr_spec.specs.HostNumbers.{at_front}
use Rattle.lxtr_laws.specs.RefusalChains.{stands}
use Rattle.lxtr_entries_spec.specs.EntryTables.{entry_number}
use Rattle.lxtr_entries_spec.specs.EntryLookups.{nowhere}
use Rattle.lxtr_entries_spec.specs.HostEntries.{host_located, host_entries_of}
use Rattle.lxtr_entries.specs.Errors.{entry_number_not_0}
use Rattle.lxtr_c.proofs.lxtr_entries.Goals as goal

pub returns-in-Ok-Some : goal.returns-in-Ok-Some
unfolding host_entries_of host_located unless_refused
returns-in-Ok-Some c =
    let located = rw c.in-Ok-Some.field-0-is at c.in-Ok-Some.ensures in
    rw (← located, c.host_number.ensures, c.put_first.ensures)

pub returns-in-Ok-None : goal.returns-in-Ok-None
unfolding host_entries_of host_located unless_refused
returns-in-Ok-None c =
    let located = rw c.in-Ok-None.field-0-is at c.in-Ok-None.ensures in
    rw (← located, c.host_number-in-Ok-None.ensures, c.put_first-in-Ok-None.ensures)

pub returns-in-Err : goal.returns-in-Err
unfolding host_entries_of host_located nowhere
returns-in-Err c = rw (← c.in-Err.ensures, c.host_number-in-Err.ensures, c.number.ensures, stands (entry_number c.in-Err.refusal) (at_front (0 ∷ []) c.args.first.now) c.args.first.now (entry_number_not_0 c.in-Err.refusal))
