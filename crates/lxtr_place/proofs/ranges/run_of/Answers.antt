use Rattle.std.proofs.Common.{rules, ◌∙◌, arith}
use Rattle.lxtr_place.specs.GroupLoops.{running_turn, running_stop, running_end}
use Rattle.lxtr_place.proofs.ranges.run_of.Goals as goal

pub returns-then-not-goes_by : goal.returns-then-not-goes_by
returns-then-not-goes_by c =
    let v = c.loop-i.invariant in
    let s = c.in-Some.ensures.steps in
    (search rules, s.1 ∙ running_stop _ _ _ _ _ v.2 _ (omega (arith, v.1, s.0.0)) (rw (s.0.1, v.0, s.0.2) at c.goes_by.ensures) c.if-not-goes_by.true)

pub loop-i-preserved : goal.loop-i-preserved
loop-i-preserved c =
    let v = c.loop-i.invariant in
    let s = c.in-Some.ensures.steps in
    (search rules, search rules, rw s.2 (running_turn _ _ _ _ _ v.2 _ (omega (arith, v.1, s.0.0)) (rw (s.0.1, v.0, s.0.2) at c.goes_by.ensures) _ c.if-not-goes_by.false (rw v.0 at s.0.4)))

pub returns : goal.returns
returns c = (search rules, running_end _ _ _ _ _ c.loop-i.invariant.2 (omega (arith, c.loop-i.invariant.1, c.in-None.ensures.steps.0)))
