use Rattle.lxtr_place.specs.GroupLoops.{under_end, under_on}
use Rattle.lxtr_place.proofs.ranges.is_under.Goals as goal

pub returns-then-len-depth : goal.returns-then-len-depth
returns-then-len-depth c = search under_end

pub returns : goal.returns
returns c = search under_on
