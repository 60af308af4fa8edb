-- Each label is counted at its place, where there is room for one more.
use Rattle.lxtr_codes.specs.LabelCounting.{key_inside, key_small, key_next, key_end}
use Rattle.lxtr_codes.proofs.counts.count_key.Goals as goal

pub count_label-requires-clause-label_in_bounds : goal.count_label-requires-clause-label_in_bounds
count_label-requires-clause-label_in_bounds c = search key_inside

pub count_label-requires-clause-label_bound : goal.count_label-requires-clause-label_bound
count_label-requires-clause-label_bound c = search key_small

-- A turn counts the first of the labels that are left.
-- The counts of the others stay.
pub loop-j-preserved : goal.loop-j-preserved
loop-j-preserved c = search key_next

pub returns : goal.returns
returns c = search key_end
