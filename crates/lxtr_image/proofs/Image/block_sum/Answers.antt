-- Each place adds its weight; the sum of a block fits.
use Rattle.std.proofs.Common.{rules}
use Rattle.lxtr_image.specs.Blocks.{sum_start, sum_next, sum_fits, sum_end}
use Rattle.lxtr_image.proofs.Image.block_sum.Goals as goal

pub loop-k-init : goal.loop-k-init
loop-k-init c = search sum_start

pub overflow_add-sum : goal.overflow_add-sum
overflow_add-sum c = search (sum_fits, rules)

pub loop-k-preserved : goal.loop-k-preserved
loop-k-preserved c = search (sum_next, rules)

pub returns : goal.returns
returns c = search (sum_end, rules)
