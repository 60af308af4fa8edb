-- The first i keys continue with x, and the rest decides.
use Rattle.std.proofs.Common.{◌≡◌, ◌+◌}
use Rattle.lxtr_place.specs.GroupLoops.{Running}
use Rattle.lxtr_place.proofs.ranges.run_of.Given as goal

abbrev pub invariant-loop-i : goal.invariant-loop-i
invariant-loop-i l = (l.i-iterator.iter.keys.now ≡ l.keys) × (l.i-iterator.count + l.i-iterator.iter.left ≡ l.g.count) × Running l.keys l.g l.x l.i-iterator.iter.at l.i-iterator.count
