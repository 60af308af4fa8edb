-- Each turn is one step to the parent; after the last no step is left.
use Rattle.std.proofs.Common.{arith}
use Rattle.lxtr_check_reach.specs.WaysUp.{ascend_next, ascend_end}
use Rattle.lxtr_check_reach.proofs.ancestor.Goals as goal

pub loop-preserved : goal.loop-preserved
loop-preserved c =
    let up = rw c.image-image.ensures.value at c.parent-at.ensures in
    ascend_next _ _ _ _ _ c.loop.invariant _ _ c.image-image.ensures.passed.whole c.image-image.ensures.right (omega arith) up

pub returns-clause-value : goal.returns-clause-value
returns-clause-value c = ascend_end _ _ _ _ _ c.loop.invariant (omega arith)
