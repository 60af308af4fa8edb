-- No slot from s up is taken.
use Rattle.std.proofs.Common.{◌≡◌, ◌≤◌}
use Rattle.lxtr_spec.specs.Builds.{slots_used}
use Rattle.lxtr_write.proofs.counting.slots_used.Given as goal

abbrev pub invariant-loop-s : goal.invariant-loop-s
invariant-loop-s l = record {
  from : 2 ≤ l.s;
  so_far : slots_used l.work l.slots ≡ slots_used l.work l.s;
}
