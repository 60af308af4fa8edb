-- The slots of the codes so far are taken.
use Rattle.std.proofs.Common.{◌≡◌}
use Rattle.lxtr_build_laws.specs.SlotLoops.{StepsSoFar}
use Rattle.lxtr_fit.specs.FreeMaps.{taken_by}
use Rattle.lxtr_fit.proofs.free_map.FreeSlots.take_under.Given as goal

abbrev pub invariant-loop-code : goal.invariant-loop-code
invariant-loop-code l = record {
  steps : StepsSoFar (taken_by l.base) l.codes l.fn.self.map l.self.map l.code-index;
  lowest : l.self.lowest ≡ l.fn.self.lowest;
}
