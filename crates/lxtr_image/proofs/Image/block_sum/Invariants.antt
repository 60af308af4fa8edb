-- The sum so far is that of the places before this one.
use Rattle.lxtr_image.specs.Blocks.{SumSoFar}
use Rattle.lxtr_image.proofs.Image.block_sum.Given as goal

abbrev pub invariant-loop-k : goal.invariant-loop-k
invariant-loop-k l = SumSoFar l.self l.label l.i l.k l.sum
