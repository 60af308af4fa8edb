-- No offset before this one falls.
use Rattle.lxtr_entries_spec.specs.EntryTables.{value_count}
use Rattle.lxtr_entries.specs.Reading.{RisesSoFar}
use Rattle.lxtr_entries.proofs.tables.EntryTable.some_falls.Given as goal

abbrev pub invariant-loop-i : goal.invariant-loop-i
invariant-loop-i l = RisesSoFar l.self (value_count l.self) l.i l.before
