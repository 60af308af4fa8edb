-- `find` over the range of the slots answers the first of them that lacks a child.
use Rattle.std.proofs.Common.{rules, tests}
use Rattle.lxtr_spec.specs.Refusals.{childless}
use Rattle.lxtr_laws.specs.Finds.{found_by}
use Rattle.lxtr_fault.proofs.list_faults.first_childless.Goals as goal

pub returns : goal.returns
returns c = rw (← c.slot_count.ensures.value) (found_by _ (childless c.args.image.now) _ _ _ c.find.ensures.ran (λ x b q k. search (rules, tests)))
