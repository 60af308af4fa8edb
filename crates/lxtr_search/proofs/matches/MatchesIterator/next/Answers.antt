-- The first match is that of the empty prefix. Then each turn is one of the laws of `Matches`: it ends the walk, gives the match at the
-- slot that is reached, or goes on.
use Rattle.std.proofs.Common.{◌≡◌, ◌+◌, ◌-◌, length, sym, ap, arith}
use Rattle.lxtr_search.specs.Matches.{match_of, matches_after, turn_stopped, turn_found, turn_passed}
use Rattle.lxtr_search.proofs.matches.MatchesIterator.next.Goals as goal

pub returns-in-Some-clause-steps : goal.returns-in-Some-clause-steps
unfolding match_of
returns-in-Some-clause-steps c = let e = rw c.in-Some.is at c.self.view_is in sym e

pub returns-in-Some-clause-goes : goal.returns-in-Some-clause-goes
unfolding match_of
returns-in-Some-clause-goes c =
    let e = rw c.in-Some.is at c.self.view_is in
    record { on = λ _. (tt, tt, omega (arith, ap length e)); keeps = tt; rests = λ _. tt }

pub loop-label-init : goal.loop-label-init
unfolding match_of
loop-label-init c = let e = rw c.in_default.is at c.self.view_is in (c.in_default.is, e, c.self.invariant.0, c.self.invariant.1, c.self.invariant.2)

pub returns-in_default-step_by-clause-steps : goal.returns-in_default-step_by-clause-steps
unfolding match_of matches_after
returns-in_default-step_by-clause-steps c =
    (turn_stopped _ _ _ _ _ _ _ _ c.loop-label.invariant.1 c.in-Some-next.ensures.steps c.step_by.ensures.value c.in_default-step_by.is, rw (c.loop-label.invariant.0, c.clear.ensures))

pub returns-in-Some-value_at-clause-steps : goal.returns-in-Some-value_at-clause-steps
unfolding match_of
returns-in-Some-value_at-clause-steps c =
    let n : c.loop-label.self-inside.count - length c.loop-label.self-inside.labels + 1 ≡ c.loop-label.self-inside.count - length c.next.new.self = omega (arith, c.loop-label.invariant.3, ap length c.in-Some-next.ensures.steps) in
    let e = turn_found _ _ _ _ _ _ _ _ c.loop-label.invariant.1 c.in-Some-next.ensures.steps c.step_by.ensures.value _ _ c.in-Some-step_by.is c.value_at.ensures _ c.in-Some-value_at.is in
    rw (c.loop-label.invariant.0, c.left.ensures) (rw n at e)

pub returns-in-Some-value_at-clause-goes : goal.returns-in-Some-value_at-clause-goes
unfolding match_of
returns-in-Some-value_at-clause-goes c =
    let n : c.loop-label.self-inside.count - length c.loop-label.self-inside.labels + 1 ≡ c.loop-label.self-inside.count - length c.next.new.self = omega (arith, c.loop-label.invariant.3, ap length c.in-Some-next.ensures.steps) in
    let e = turn_found _ _ _ _ _ _ _ _ c.loop-label.invariant.1 c.in-Some-next.ensures.steps c.step_by.ensures.value _ _ c.in-Some-step_by.is c.value_at.ensures _ c.in-Some-value_at.is in
    record { on = λ _. (tt, tt, rw c.loop-label.invariant.0 (omega (arith, ap length (rw n at e)))); keeps = tt; rests = λ _. tt }

pub loop-label-preserved : goal.loop-label-preserved
loop-label-preserved c =
    let n : c.loop-label.self-inside.count - length c.loop-label.self-inside.labels + 1 ≡ c.loop-label.self-inside.count - length c.next.new.self = omega (arith, c.loop-label.invariant.3, ap length c.in-Some-next.ensures.steps) in
    let e = turn_passed _ _ _ _ _ _ _ _ c.loop-label.invariant.1 c.in-Some-next.ensures.steps c.step_by.ensures.value _ _ c.in-Some-step_by.is c.value_at.ensures c.in_default-value_at.is in (
      c.loop-label.invariant.0,
      rw n at e,
      c.in-Some-step_by.ensures.below,
      omega (arith, c.loop-label.invariant.3, ap length c.in-Some-next.ensures.steps),
      c.loop-label.invariant.4,
    )

pub returns-clause-steps : goal.returns-clause-steps
unfolding match_of matches_after
returns-clause-steps c =
    let e = rw c.in_default-next.ensures.steps.0 at c.loop-label.invariant.1 in
    (sym e, rw (c.loop-label.invariant.0, c.in_default-next.ensures.steps.1))
