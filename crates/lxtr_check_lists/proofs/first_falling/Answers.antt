-- `find` over the range of the slots answers the first of them at which the offsets fall.
use Rattle.std.proofs.Common.{rules, tests}
use Rattle.lxtr_spec.specs.Refusals.{offset_falls}
use Rattle.lxtr_laws.specs.Finds.{found_by}
use Rattle.lxtr_check_lists.proofs.first_falling.Goals as goal

pub returns : goal.returns
returns c = rw (← c.slot_count.ensures.value) (found_by _ (offset_falls c.args.image.now) _ _ _ c.find.ensures.ran (λ x b q k. search (rules, tests)))
