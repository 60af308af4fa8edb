use Rattle.lxtr_write.specs.SlotCounting.{used_end, used_found, used_next}
use Rattle.std.proofs.Common.{rules}
use Rattle.lxtr_write.proofs.counting.slots_used.Goals as goal

pub returns-then-is_taken_from_2 : goal.returns-then-is_taken_from_2
returns-then-is_taken_from_2 c = search (used_found, c.loop-s.invariant.so_far)

pub loop-s-preserved : goal.loop-s-preserved
loop-s-preserved c = record { from = search rules; so_far = search (used_next, c.loop-s.invariant.so_far) }

pub returns : goal.returns
returns c = search (used_end, c.loop-s.invariant.so_far)
