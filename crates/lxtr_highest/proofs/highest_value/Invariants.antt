-- `bound` is one more than the highest value of the ends among the slots before this one, or 0.
use Rattle.lxtr_highest.specs.Bounds.{HighestSoFar}
use Rattle.lxtr_highest.proofs.highest_value.Given as goal

abbrev pub invariant-loop-s : goal.invariant-loop-s
invariant-loop-s l = HighestSoFar l.image l.s l.s-end l.bound
