use Rattle.lxtr_place.specs.GroupLoops.{goes_end, goes_on}
use Rattle.lxtr_place.proofs.ranges.goes_by.Goals as goal

pub returns-then-len-depth : goal.returns-then-len-depth
returns-then-len-depth c = search goes_end

pub returns : goal.returns
returns c = search goes_on
