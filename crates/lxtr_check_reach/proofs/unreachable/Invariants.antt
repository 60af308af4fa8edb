-- The steps that are left lead from slot `at` to the slot that all steps lead to from slot s.
use Rattle.std.proofs.Common.{suc, ◌-◌, ◌*◌}
use Rattle.lxtr_spec.specs.Labels.{length_count}
use Rattle.lxtr_check_reach.specs.WaysUp.{Ascending}
use Rattle.lxtr_check_reach.proofs.unreachable.Given as goal

abbrev pub invariant-loop : goal.invariant-loop
invariant-loop l = Ascending l.slots (suc length_count) l.s (66 - 8 * l.counter) l.at
