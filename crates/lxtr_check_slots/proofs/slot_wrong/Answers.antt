-- One law for each kind of slot.
use Rattle.std.proofs.Common.{rules}
use Rattle.lxtr_check_slots.specs.SlotTests.{slot_zero, slot_one, slot_unused, slot_used}
use Rattle.lxtr_check_slots.proofs.slot_wrong.Goals as goal

pub returns-then-s-eq0 : goal.returns-then-s-eq0
returns-then-s-eq0 c = search (slot_zero, rules)

pub returns-then-s-eq1 : goal.returns-then-s-eq1
returns-then-s-eq1 c = search (slot_one, rules)

pub returns-then-not-is_used_from_2 : goal.returns-then-not-is_used_from_2
returns-then-not-is_used_from_2 c = let used = rw c.bytes.ensures.value at c.is_used_from_2.ensures in search (slot_unused, used, rules)

pub returns : goal.returns
returns c = let used = rw c.bytes.ensures.value at c.is_used_from_2.ensures in search (slot_used, used, rules)
