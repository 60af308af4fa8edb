-- `taken` counts the taken slots before this one.
use Rattle.lxtr_spec.specs.Placing.{is_taken_from2}
use Rattle.lxtr_laws.specs.Tallies.{CountSoFar}
use Rattle.lxtr_write.proofs.counting.taken_count.Given as goal

abbrev pub invariant-loop-s : goal.invariant-loop-s
invariant-loop-s l = CountSoFar (is_taken_from2 l.work) l.s l.slots l.taken
