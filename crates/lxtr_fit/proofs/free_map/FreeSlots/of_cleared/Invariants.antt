-- The first i words are those of a map in which the slots below `slots` are set.
use Rattle.lxtr_fit.specs.MapLoops.{SetSoFar}
use Rattle.lxtr_fit.proofs.free_map.FreeSlots.of_cleared.Given as goal

abbrev pub invariant-loop-i : goal.invariant-loop-i
invariant-loop-i l = SetSoFar l.slots l.map l.i
