-- Each turn is one of the laws of `Tallies`.
use Rattle.std.proofs.Common.{rules}
use Rattle.lxtr_spec.specs.Refusals.{end_count}
use Rattle.lxtr_laws.specs.Tallies.{count_start, count_next, count_end}
use Rattle.lxtr_check.proofs.end_count.Goals as goal

pub loop-s-init : goal.loop-s-init
loop-s-init c = search count_start

pub loop-s-preserved : goal.loop-s-preserved
loop-s-preserved c = let is = rw c.bytes.ensures.value at c.is_end.ensures in search (count_next, is, rules)

pub returns : goal.returns
unfolding end_count
returns c = search (count_end, rules)
