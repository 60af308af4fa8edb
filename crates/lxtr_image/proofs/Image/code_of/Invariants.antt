-- The code of the label is what the search of the places from this block on gives.
use Rattle.std.proofs.Common.{◌≡◌, ◌-◌, ◌*◌}
use Rattle.lxtr_spec.specs.Image.{label_count, code_from, code_of}
use Rattle.lxtr_image.specs.Blocks.{block_size}
use Rattle.lxtr_image.proofs.Image.code_of.Given as goal

abbrev pub invariant-loop-block : goal.invariant-loop-block
invariant-loop-block l = code_of l.self l.label ≡ code_from l.self l.label (label_count l.self - block_size * l.block) (block_size * l.block)
