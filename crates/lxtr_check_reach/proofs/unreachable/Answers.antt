-- Each turn is STRIDE steps. A used slot from 2 up comes to slot 0 only through slot 1, and any other slot comes there at once.
use Rattle.std.proofs.Common.{◌+◌, ◌-◌, ◌*◌, ◌≡◌, arith}
use Rattle.lxtr_spec.specs.Labels.{max_labels}
use Rattle.lxtr_check_reach.specs.WaysUp.{ascend_start, ascend_by, reach_found, reach_tested}
use Rattle.lxtr_check_reach.proofs.unreachable.Goals as goal

pub loop-init : goal.loop-init
unfolding max_labels
loop-init c = ascend_start _ _ _ c.requires

pub loop-preserved : goal.loop-preserved
unfolding max_labels
loop-preserved c = ascend_by _ _ _ _ _ c.loop.invariant 8 _ _ (omega arith) c.ancestor-at.ensures.value c.ancestor-at.ensures.upper_bound

pub returns-then-at_slot_0 : goal.returns-then-at_slot_0
unfolding max_labels
returns-then-at_slot_0 c =
    reach_found _ _ _ _ (ascend_by _ _ _ _ _ c.loop.invariant 8 (66 - 8 * (c.loop.counter + 1)) _ (omega arith) c.ancestor-at.ensures.value c.ancestor-at.ensures.upper_bound)
    c.image.ensures.passed.whole c.image.ensures.right c.requires c.if-at_slot_0.true

pub returns : goal.returns
unfolding max_labels
returns c =
    let left : 66 - 8 * c.loop.counter ≡ 2 = omega arith in
    reach_tested _ _ _ _ (rw left at c.loop.invariant) c.image.ensures.passed.whole c.image.ensures.right c.requires _ c.ancestor.ensures.value
