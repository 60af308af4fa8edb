-- The words of the children so far are stored; those of the others complete the whole.
use Rattle.lxtr_spec.specs.Placing.{put_child}
use Rattle.lxtr_build_laws.specs.SlotLoops.{StepsSoFar}
use Rattle.lxtr_place.proofs.settling.put_children.Given as goal

abbrev pub invariant-loop-code : goal.invariant-loop-code
invariant-loop-code l = StepsSoFar (put_child l.p l.value l.base) l.codes l.fn.work l.work l.code-index
