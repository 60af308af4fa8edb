-- The labels that count are those of the front part of the query, of which none is walked; the first match is that of slot 1.
use Rattle.std.proofs.Common.{◌≡◌, ◌-◌, ◌≤◌, ◌∙◌, arith, length}
use Rattle.lxtr_spec.specs.Labels.{max_labels}
use Rattle.lxtr_search.specs.Matches.{all_after, all_limit, counted_front, counted_few}
use Rattle.lxtr_search.proofs.matches.Matches.of.Goals as goal

pub overflow_cast-result : goal.overflow_cast-result
unfolding max_labels
overflow_cast-result c =
    let few : length c.of-labels.result ≤ max_labels = rw c.of-labels.ensures (counted_few _ _ c.min-end.ensures) in
    omega (arith, c.left.ensures)

pub invariant_of-result : goal.invariant_of-result
unfolding max_labels
invariant_of-result c =
    let few : length c.of-labels.result ≤ max_labels = rw c.of-labels.ensures (counted_few _ _ c.min-end.ensures) in
    (c.root-slot.ensures.below, omega (arith, c.left.ensures), omega (arith, c.left.ensures))

pub returns-clause-value : goal.returns-clause-value
unfolding max_labels
returns-clause-value c =
    let none : c.left.result - length c.of-labels.result ≡ 0 = omega (arith, c.left.ensures) in
    rw (c.value_at-first.ensures, c.root-slot.ensures.value, none) (all_after _ _ _ (c.of-labels.ensures ∙ counted_front _ _ c.min-end.ensures))

pub returns-clause-limit : goal.returns-clause-limit
unfolding max_labels
returns-clause-limit c =
    let none : c.left.result - length c.of-labels.result ≡ 0 = omega (arith, c.left.ensures) in
    let e = c.of-labels.ensures ∙ counted_front _ _ c.min-end.ensures in
    rw (c.value_at-first.ensures, c.root-slot.ensures.value, none) (rw (all_after _ _ _ e) (all_limit _ _ _ e))
