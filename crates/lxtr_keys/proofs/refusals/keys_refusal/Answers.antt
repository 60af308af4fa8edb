-- A key that is refused refuses the list; otherwise the rest of the list decides.
use Rattle.std.proofs.Common.{◌+◌, ◌∙◌, sym, refl, arith, lt-ltb}
use Rattle.lxtr_laws.specs.Failures.{number_not_0, passed_on}
use Rattle.lxtr_keys.specs.KeyRefusals.{later_alike, key_refused, keys_next, left_over, keys_right}
use Rattle.lxtr_keys.proofs.refusals.keys_refusal.Goals as goal

pub returns-in_err-key : goal.returns-in_err-key
returns-in_err-key c =
    let i = c.loop-i.invariant in
    passed_on _ _ c.from_residual.ensures.1 ∙ key_refused _ _ _ _ _ i.rest _ c.loop-i-test.true ((c.in_err-key.ensures).refusal ∙ later_alike _ _ _ _ _ (sym i.turn)) (number_not_0 _)

pub loop-i-preserved : goal.loop-i-preserved
loop-i-preserved c =
    let i = c.loop-i.invariant in
    let v = (c.in_ok-key.ensures).value in
    record {
      rest = rw v.1 (keys_next _ _ _ _ _ i.rest _ c.loop-i-test.true ((c.in_ok-key.ensures).refusal ∙ later_alike _ _ _ _ _ (sym i.turn)) refl _ (rw (v.0, v.1) at c.next-at.ensures));
      same = v.0;
      turn = lt-ltb 0 (c.loop-i._i + 1) (omega arith);
    }

pub returns-then-at-keys : goal.returns-then-at-keys
returns-then-at-keys c = left_over _ _ _ _ _ c.loop-i.invariant.rest c.loop-i-test.false c.if-at-keys.true

pub returns : goal.returns
returns c = keys_right _ _ _ _ _ c.loop-i.invariant.rest c.loop-i-test.false c.if-at-keys.false
