-- If no slot is the first that is wrong, none is wrong.
use Rattle.std.proofs.Common.{rules}
use Rattle.lxtr_spec.specs.Refusals.{slots_wrong}
use Rattle.lxtr_laws.specs.FirstPlaces.{none_first_in}
use Rattle.lxtr_check_slots.proofs.Slots.check.Goals as goal

pub invariant_of-result : goal.invariant_of-result
unfolding slots_wrong
invariant_of-result c = search (none_first_in, rules)

pub returns-in-None : goal.returns-in-None
unfolding slots_wrong
returns-in-None c = search (none_first_in, rules)
