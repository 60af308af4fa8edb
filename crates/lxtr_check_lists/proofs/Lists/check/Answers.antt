-- If no slot is the first at which the offsets fall, they fall nowhere.
use Rattle.std.proofs.Common.{rules}
use Rattle.lxtr_laws.specs.FirstPlaces.{none_first_in}
use Rattle.lxtr_check_lists.proofs.Lists.check.Goals as goal

pub invariant_of-result : goal.invariant_of-result
invariant_of-result c = search (none_first_in, rules)

pub returns-in-None : goal.returns-in-None
returns-in-None c = search (none_first_in, rules)
