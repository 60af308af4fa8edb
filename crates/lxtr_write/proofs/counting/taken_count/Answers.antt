use Rattle.lxtr_laws.specs.Tallies.{count_start, count_next, count_end}
use Rattle.lxtr_write.specs.SlotCounting.{taken_fits}
use Rattle.lxtr_write.proofs.counting.taken_count.Goals as goal

pub loop-s-init : goal.loop-s-init
loop-s-init c = search count_start

pub overflow_add-taken : goal.overflow_add-taken
overflow_add-taken c = search taken_fits

pub loop-s-preserved : goal.loop-s-preserved
loop-s-preserved c = search count_next

pub returns : goal.returns
returns c = search count_end
