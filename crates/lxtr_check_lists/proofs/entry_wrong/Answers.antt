-- An entry that is not a slot is a fault; for a slot the other tests follow.
use Rattle.std.proofs.Common.{rules}
use Rattle.lxtr_check_lists.specs.ListTests.{entry_past, entry_tested}
use Rattle.lxtr_check_lists.proofs.entry_wrong.Goals as goal

pub returns-then-slot_count-t : goal.returns-then-slot_count-t
returns-then-slot_count-t c = search (entry_past, rules)

pub returns : goal.returns
returns c = let used = rw c.bytes.ensures.value at c.is_used.ensures in search (entry_tested, used, rules)
