-- No pairs if the walk reaches no slot; otherwise the pairs below the slot. The path has a place for each label of the query and one more.
use Rattle.std.proofs.Common.{◌∙◌, ap, arith}
use Rattle.lxtr_spec.specs.Labels.{max_labels}
use Rattle.lxtr_complete.specs.RecordWriting.{after}
use Rattle.lxtr_complete.specs.Answers.{state_of}
use Rattle.lxtr_complete.specs.Completing.{pairs_none, few_labels, list_ready, pairs_listed}
use Rattle.lxtr_complete.proofs.list_query.Goals as goal

pub returns-in_default-clause-state : goal.returns-in_default-clause-state
unfolding after
returns-in_default-clause-state c = let w = rw c.image.ensures.value at c.walk_within.ensures.value in rw (pairs_none _ _ _ w c.in_default.is)

pub fill_path-requires : goal.fill_path-requires
unfolding max_labels
fill_path-requires c = let w = rw c.image.ensures.value at c.walk_within.ensures.value in omega (arith, few_labels _ _ _ w _ c.in-Some.is)

pub list_below-requires : goal.list_below-requires
unfolding max_labels
list_below-requires c =
    let w = rw c.image.ensures.value at c.walk_within.ensures.value in
    list_ready _ _ _ w _ c.in-Some.is _ _ c.label_count-left.ensures (rw c.image.ensures.value at c.in-Some.ensures.below) c.fill_path.auto.path

pub returns-clause-state : goal.returns-clause-state
unfolding max_labels
returns-clause-state c =
    let w = rw c.image.ensures.value at c.walk_within.ensures.value in
    c.list_below.ensures.state ∙ ap (after (state_of c.args.records.now)) (pairs_listed _ _ _ w _ c.in-Some.is _ _ c.label_count-left.ensures c.fill_path.ensures)
