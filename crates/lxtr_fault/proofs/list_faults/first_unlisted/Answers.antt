-- `find` over the range of the slots answers the first of them that is unlisted.
use Rattle.std.proofs.Common.{rules, tests}
use Rattle.lxtr_spec.specs.FaultPlaces.{unlisted}
use Rattle.lxtr_laws.specs.Finds.{found_by}
use Rattle.lxtr_fault.proofs.list_faults.first_unlisted.Goals as goal

pub returns : goal.returns
returns c =
    let count = rw c.image.ensures.value at c.slot_count.ensures.value in
    rw (← count) (found_by _ (unlisted c.args.lists.now) _ _ _ c.find.ensures.ran (λ x b q k. search (rules, tests)))
