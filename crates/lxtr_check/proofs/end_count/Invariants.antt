-- `ends` counts the ends among the slots before this one.
use Rattle.lxtr_spec.specs.Refusals.{is_end}
use Rattle.lxtr_laws.specs.Tallies.{CountSoFar}
use Rattle.lxtr_check.proofs.end_count.Given as goal

abbrev pub invariant-loop-s : goal.invariant-loop-s
invariant-loop-s l = CountSoFar (is_end l.image) l.s l.s-end l.ends
