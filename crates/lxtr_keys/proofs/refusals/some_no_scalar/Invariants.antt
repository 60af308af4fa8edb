-- Every label before this one is a scalar value.
use Rattle.lxtr_spec.specs.KeyLists.{key_length, no_scalar_at}
use Rattle.lxtr_laws.specs.Scans.{NoneSoFar}
use Rattle.lxtr_keys.proofs.refusals.some_no_scalar.Given as goal

abbrev pub invariant-loop-j : goal.invariant-loop-j
invariant-loop-j l = NoneSoFar (no_scalar_at l.key.keys.now l.key.at) l.j (key_length l.key.keys.now l.key.at)
