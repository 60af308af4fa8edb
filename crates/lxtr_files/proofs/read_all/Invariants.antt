-- Invariant: the bytes that were read lie within the room. Measure: the bytes that are left of it.
use Rattle.std.proofs.Common.{◌-◌, ◌≤◌, length}
use Rattle.lxtr_files.proofs.read_all.Given as goal

abbrev pub invariant-loop-size : goal.invariant-loop-size
invariant-loop-size l = l.size ≤ length l.room

abbrev pub decreases-loop-size : goal.decreases-loop-size
decreases-loop-size l = length l.room - l.size
