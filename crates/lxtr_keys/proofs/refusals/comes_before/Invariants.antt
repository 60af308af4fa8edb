-- The first labels of both keys are the same, so what comes after them decides.
use Rattle.lxtr_keys.specs.KeyRefusals.{Comparing}
use Rattle.lxtr_keys.proofs.refusals.comes_before.Given as goal

abbrev pub invariant-loop-same : goal.invariant-loop-same
invariant-loop-same l = Comparing l.before.keys.now l.key.keys.now l.before.at l.key.at l.m l.same
