-- A parent that is not a slot is a fault; if the parent is a slot, the other tests follow.
use Rattle.std.proofs.Common.{rules}
use Rattle.lxtr_check_slots.specs.SlotTests.{parent_past, parent_tested}
use Rattle.lxtr_check_slots.proofs.used_slot_wrong.Goals as goal

pub returns-then-slot_count-p : goal.returns-then-slot_count-p
returns-then-slot_count-p c = search (parent_past, rules)

pub returns : goal.returns
returns c = search (parent_tested, rules)
