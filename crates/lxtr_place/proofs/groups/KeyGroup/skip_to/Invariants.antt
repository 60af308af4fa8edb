-- No key before the low-th continues with x; the high-th key, if there is one, is not under x.
use Rattle.std.proofs.Common.{◌-◌}
use Rattle.lxtr_place.specs.GroupLoops.{Searching}
use Rattle.lxtr_place.proofs.groups.KeyGroup.skip_to.Given as goal

abbrev pub invariant-loop-low : goal.invariant-loop-low
invariant-loop-low l = Searching l.list.bytes.now l.self.span l.x l.low l.high

abbrev pub decreases-loop-low : goal.decreases-loop-low
decreases-loop-low l = l.high - l.low
