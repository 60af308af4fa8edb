-- Each turn is one of the laws of `Bounds`.
use Rattle.lxtr_highest.specs.Bounds.{highest_start, highest_next, highest_all}
use Rattle.lxtr_highest.proofs.highest_value.Goals as goal

pub loop-s-init : goal.loop-s-init
loop-s-init c = search highest_start

pub loop-s-preserved : goal.loop-s-preserved
loop-s-preserved c = highest_next _ _ _ _ c.loop-s.invariant _ _ c.loop-s-test.true c.end_bound.ensures c.max-bound.ensures

pub returns : goal.returns
returns c = highest_all _ _ _ _ c.loop-s.invariant c.slot_count-s-end.ensures.value c.loop-s-test.false _ c.checked_sub.ensures
