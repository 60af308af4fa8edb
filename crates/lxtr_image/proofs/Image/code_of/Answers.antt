-- A block whose sum is 0 is passed; a sum of one match gives the place; otherwise the search continues place by place.
use Rattle.std.proofs.Common.{◌≡◌, ◌+◌, ◌*◌, arith, refl}
use Rattle.lxtr_image.specs.CodeSearch.{code_all}
use Rattle.lxtr_image.specs.Blocks.{block_found, block_passed}
use Rattle.lxtr_image.proofs.Image.code_of.Goals as goal

pub loop-block-init : goal.loop-block-init
loop-block-init c = code_all _ _ _ refl

pub returns-then-sum-ne0 : goal.returns-then-sum-ne0
returns-then-sum-ne0 c = block_found _ _ _ _ _ _ c.loop-block.invariant (omega arith) c.block_sum-sum.ensures (omega arith) c.if-sum-ne0.true

pub loop-block-preserved : goal.loop-block-preserved
loop-block-preserved c =
    let next : 64 * (c.loop-block.block + 1) ≡ 64 * c.loop-block.block + 64 = omega arith in
    rw next (block_passed _ _ _ _ _ _ c.loop-block.invariant (omega arith) c.block_sum-sum.ensures c.if-sum-ne0.false)
