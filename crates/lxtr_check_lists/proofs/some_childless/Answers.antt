-- Each turn is one of the laws of `ListTests`.
use Rattle.std.proofs.Common.{rules}
use Rattle.lxtr_check_lists.specs.ListTests.{any_start, any_next}
use Rattle.lxtr_check_lists.proofs.some_childless.Goals as goal

pub loop-s-init : goal.loop-s-init
loop-s-init c = search any_start

pub loop-s-preserved : goal.loop-s-preserved
loop-s-preserved c = search (any_next, rules)
