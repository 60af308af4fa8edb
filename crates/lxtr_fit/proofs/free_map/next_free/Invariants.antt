-- No slot is free from `from` up to `at`.
use Rattle.std.proofs.Common.{◌-◌}
use Rattle.lxtr_spec.specs.Labels.{max_slots}
use Rattle.lxtr_fit.specs.MapLoops.{NoFreeSoFar}
use Rattle.lxtr_fit.proofs.free_map.next_free.Given as goal

abbrev pub invariant-loop-at : goal.invariant-loop-at
invariant-loop-at l = NoFreeSoFar l.free l.from l.at

abbrev pub decreases-loop-at : goal.decreases-loop-at
decreases-loop-at l = max_slots - l.at
