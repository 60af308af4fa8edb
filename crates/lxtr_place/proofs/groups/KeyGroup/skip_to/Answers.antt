use Rattle.std.proofs.Common.{arith}
use Rattle.lxtr_place.specs.GroupLoops.{search_start, mid_whole, search_low, search_high, found_below}
use Rattle.lxtr_place.proofs.groups.KeyGroup.skip_to.Goals as goal

pub loop-low-init : goal.loop-low-init
loop-low-init c = search search_start

pub start_of-requires : goal.start_of-requires
start_of-requires c = omega arith

pub invariant_of-key : goal.invariant_of-key
invariant_of-key c = record { whole = search mid_whole }

pub loop-low-preserved-then-is_under : goal.loop-low-preserved-then-is_under
loop-low-preserved-then-is_under c = search search_low

pub loop-low-preserved : goal.loop-low-preserved
loop-low-preserved c = search search_high

pub returns : goal.returns
returns c = search found_below
