-- A value is below 2^31, so one more fits.
use Rattle.std.proofs.Common.{rules}
use Rattle.lxtr_spec.specs.Image.{value_number}
use Rattle.lxtr_highest.proofs.end_bound.Goals as goal

pub overflow_add-result : goal.overflow_add-result
unfolding value_number
overflow_add-result c = search rules
