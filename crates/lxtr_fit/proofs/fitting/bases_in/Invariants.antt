-- The bits are those of the bases under which the slots of the codes so far are free.
use Rattle.lxtr_fit.specs.Fitting.{BasesSoFar}
use Rattle.lxtr_fit.proofs.fitting.bases_in.Given as goal

abbrev pub invariant-loop-code : goal.invariant-loop-code
invariant-loop-code l = BasesSoFar l.free l.codes l.block l.bases l.code-index
