-- `find` over the range of the slots answers the first of them that is wrong.
use Rattle.std.proofs.Common.{rules}
use Rattle.std.proofs.Common.{tests}
use Rattle.lxtr_spec.specs.Refusals.{slot_wrong}
use Rattle.lxtr_laws.specs.Finds.{found_by}
use Rattle.lxtr_check_slots.proofs.first_wrong_slot.Goals as goal

pub returns : goal.returns
returns c = rw (← c.slot_count.ensures.value) (found_by _ (slot_wrong c.args.image.now) _ _ _ c.find.ensures.ran (λ x b q k. search (rules, tests)))
