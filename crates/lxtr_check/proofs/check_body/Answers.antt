-- Each return is a chain of faults that are not there, ended by one that is or by none. A first wrong place is there exactly when some
-- place is wrong.
use Rattle.lxtr_spec.specs.Refusals.{labels_wrong, slots_wrong, some_unreachable, body_refusal}
use Rattle.lxtr_laws.specs.RefusalChains.{refused, refused_by_lem, goes_on, goes_on_by}
use Rattle.lxtr_laws.specs.FirstPlaces.{some_below, some_first_in}
use Rattle.std.proofs.Common.{refl}
use Rattle.lxtr_check.proofs.check_body.Goals as goal

pub returns-then-is_some : goal.returns-then-is_some
unfolding body_refusal labels_wrong
returns-then-is_some c = refused_by_lem _ _ _ _ (some_below _ _ _ _ c.first_wrong_label.ensures c.is_some.ensures) c.if-is_some.true

pub returns-in_default : goal.returns-in_default
unfolding body_refusal labels_wrong slots_wrong
returns-in_default c =
    goes_on_by _ _ _ _ _ (some_below _ _ _ _ c.first_wrong_label.ensures c.is_some.ensures) c.if-is_some.false
    (refused _ _ _ (some_first_in _ _ _ c.in_default.ensures).0)

pub returns-then-lists_wrong : goal.returns-then-lists_wrong
unfolding body_refusal labels_wrong
returns-then-lists_wrong c =
    let lists = rw c.in-Ok.ensures.0 at c.lists_wrong.ensures in
    goes_on_by _ _ _ _ _ (some_below _ _ _ _ c.first_wrong_label.ensures c.is_some.ensures) c.if-is_some.false
    (goes_on _ _ _ _ c.in-Ok.ensures.1 (refused_by_lem _ _ _ _ lists c.if-lists_wrong.true))

pub returns-then-is_some-2 : goal.returns-then-is_some-2
unfolding body_refusal labels_wrong some_unreachable
returns-then-is_some-2 c =
    let lists = rw c.in-Ok.ensures.0 at c.lists_wrong.ensures in
    let first = rw c.in-Ok.ensures.0 at c.first_unreachable.ensures in
    goes_on_by _ _ _ _ _ (some_below _ _ _ _ c.first_wrong_label.ensures c.is_some.ensures) c.if-is_some.false
    (goes_on _ _ _ _ c.in-Ok.ensures.1
    (goes_on_by _ _ _ _ _ lists c.if-lists_wrong.false
    (refused_by_lem _ _ _ _ (some_below _ _ _ _ first c.is_some-2.ensures) c.if-is_some-2.true)))

pub returns : goal.returns
unfolding body_refusal labels_wrong some_unreachable
returns c =
    let lists = rw c.in-Ok.ensures.0 at c.lists_wrong.ensures in
    let first = rw c.in-Ok.ensures.0 at c.first_unreachable.ensures in
    goes_on_by _ _ _ _ _ (some_below _ _ _ _ c.first_wrong_label.ensures c.is_some.ensures) c.if-is_some.false
    (goes_on _ _ _ _ c.in-Ok.ensures.1
    (goes_on_by _ _ _ _ _ lists c.if-lists_wrong.false
    (goes_on_by _ _ _ _ _ (some_below _ _ _ _ first c.is_some-2.ensures) c.if-is_some-2.false refl)))
