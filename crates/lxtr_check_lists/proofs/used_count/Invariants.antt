-- `used` counts the used slots from 2 up among those before this one.
use Rattle.lxtr_spec.specs.Refusals.{is_used_from2}
use Rattle.lxtr_laws.specs.Tallies.{CountSoFar}
use Rattle.lxtr_check_lists.proofs.used_count.Given as goal

abbrev pub invariant-loop-s : goal.invariant-loop-s
invariant-loop-s l = CountSoFar (is_used_from2 l.image) l.s l.s-end l.used
