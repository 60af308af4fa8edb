-- Where a label has no step, the walk stops at its place; few enough labels begin to be walked.
use Rattle.std.proofs.Common.{arith, refl, ℕ, ap, sym, ◌∙◌, ◌≡◌, ◌≤◌, length}
use Rattle.lxtr_spec.specs.Labels.{max_labels, labels_of}
use Rattle.lxtr_spec.specs.Reasons.{reason_from, stopped_at}
use Rattle.lxtr_laws.specs.WalkReasons.{reason_within}
use Rattle.lxtr_why.proofs.reason.Goals as goal

pub returns-in_default : goal.returns-in_default
unfolding max_labels reason_from
returns-in_default c =
    let v = c.loop-i.invariant in
    let s = c.in-Some.ensures.steps in
    let few : length (labels_of c.args.query.now) ≤ max_labels = omega arith in
    let stops : reason_from c.args.image.now c.loop-i.i-iterator.count c.loop-i.n c.loop-i.i-iterator.iter ≡ stopped_at c.args.image.now c.loop-i.i-iterator.count c.in-Some.label = rw (s.0, reason_from, ← c.step_by.ensures.value, c.in_default.is) refl in
    c.stopped_at.ensures ∙ ap (λ (j : ℕ). stopped_at c.args.image.now j c.in-Some.label) s.1 ∙ sym (reason_within _ _ few ∙ v.2 ∙ stops)
