-- The laws of `KeyRefusals`: what decides at the first labels that differ, or where a key ends.
use Rattle.lxtr_keys.specs.KeyRefusals.{compare_end, compare_past, compare_differ, compare_next}
use Rattle.lxtr_keys.proofs.refusals.comes_before.Goals as goal

pub returns-then-n-same : goal.returns-then-n-same
returns-then-n-same c = search compare_past

pub returns-then-x-y : goal.returns-then-x-y
returns-then-x-y c = search compare_differ

pub loop-same-preserved : goal.loop-same-preserved
loop-same-preserved c = search compare_next

pub returns : goal.returns
returns c = search compare_end
