-- The steps that are left lead from slot `at` to the slot that all steps lead to from slot s.
use Rattle.std.proofs.Common.{◌-◌}
use Rattle.lxtr_check_reach.specs.WaysUp.{Ascending}
use Rattle.lxtr_check_reach.proofs.ancestor.Given as goal

abbrev pub invariant-loop : goal.invariant-loop
invariant-loop l = Ascending l.slots l.steps l.s (l.steps - l.counter) l.at
