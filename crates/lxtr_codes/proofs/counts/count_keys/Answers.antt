use Rattle.std.proofs.Common.{◌≡◌, ◌-◌, refl, ◌∙◌, arith}
use Rattle.lxtr_spec.specs.KeyLists.{key_count}
use Rattle.lxtr_keys.specs.Walking.{walked}
use Rattle.lxtr_codes.specs.LabelCounting.{counting_start, counting_able, counting_next, counting_end}
use Rattle.lxtr_codes.proofs.counts.count_keys.Goals as goal

pub loop-key-init : goal.loop-key-init
loop-key-init c =
    let b = c.args.keys.now.bytes.now in
    let z : key_count b - key_count b ≡ 0 = omega arith in
    rw (c.into_iter-key-iterator.ensures.into_iter_gives, c.keys-key-items.ensures.keys_value, c.keys-key-items.ensures.at_value, c.keys-key-items.ensures.left_value, z) (refl, omega arith, search counting_start)

pub count_key-requires-clause-countable : goal.count_key-requires-clause-countable
count_key-requires-clause-countable c =
    let v = c.loop-key.invariant in
    let s = c.in-Some.ensures.steps in
    rw (s.1, v.0, s.2) (counting_able _ _ _ _ _ _ v.2 (walked _ _ _ v.1 s.0).0)

pub loop-key-preserved : goal.loop-key-preserved
loop-key-preserved c =
    let v = c.loop-key.invariant in
    let s = c.in-Some.ensures.steps in
    let w = walked _ _ _ v.1 s.0 in
    (s.3 ∙ v.0, w.2, rw (← w.1) (counting_next _ _ _ _ _ _ v.2 w.0 _ _ (rw (s.1, v.0, s.2) at c.count_key.ensures) (rw v.0 at s.4)))

pub returns-clause-counted : goal.returns-clause-counted
returns-clause-counted c = counting_end _ _ _ _ _ _ c.loop-key.invariant.2 (omega (arith, c.in-None.ensures.steps))
