-- `find` over the range of the slots answers the first of them that does not reach slot 1.
use Rattle.std.proofs.Common.{rules, tests}
use Rattle.lxtr_spec.specs.Refusals.{unreachable}
use Rattle.lxtr_laws.specs.Finds.{found_by}
use Rattle.lxtr_check_reach.proofs.first_unreachable.Goals as goal

pub returns : goal.returns
returns c =
    let count = rw c.image.ensures.value at c.slot_count.ensures.value in
    rw (← count) (found_by _ (unreachable c.args.slots.now) _ _ _ c.find.ensures.ran (λ x b q k. search (rules, tests)))
