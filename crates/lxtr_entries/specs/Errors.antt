-- The number of an error is not 0.
use Rattle.std.specs.Prelude.{◌≢◌}
use Rattle.std.proofs.Common.{arith}
use Rattle.lxtr_laws.specs.Failures.{number_not_0}
use Rattle.lxtr_entries_spec.specs.EntryTables.{entry_number}
use Rattle.lxtr_entries_spec.specs.declared.EntryRefusal.{EntryRefusal}
use Rattle.lxtr_entries_spec.specs.declared.EntryRefusal.TheVariants.{Image, TableMalformed, ValueBeyond}

pub entry_number_not_0 : (e : EntryRefusal) → entry_number e ≢ 0
entry_number_not_0 (Image refusal) = number_not_0 refusal
entry_number_not_0 TableMalformed = λ h. omega arith
entry_number_not_0 ValueBeyond = λ h. omega arith
