-- A list that is not refused has what is known of such a list.
use Rattle.std.proofs.Common.{sym}
use Rattle.lxtr_build_laws.specs.Passing.{list_passed}
use Rattle.lxtr_keys.proofs.list.KeyList.read.Goals as goal

pub invariant_of-result : goal.invariant_of-result
invariant_of-result c = record { passed = list_passed _ (sym c.in_ok-list_refusal.ensures) }
