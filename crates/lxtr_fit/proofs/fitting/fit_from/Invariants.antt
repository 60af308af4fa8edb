-- No base fits from block `first` up to this one.
use Rattle.lxtr_fit.specs.Fitting.{NoBaseSoFar}
use Rattle.lxtr_fit.proofs.fitting.fit_from.Given as goal

abbrev pub invariant-loop-block : goal.invariant-loop-block
invariant-loop-block l = NoBaseSoFar l.free l.codes l.first l.block
