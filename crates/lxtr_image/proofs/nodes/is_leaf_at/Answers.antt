-- `is_leaf` is a part of the base word.
use Rattle.std.proofs.Math.Path.{ap}
use Rattle.lxtr_spec.specs.Image.{top_bit, is_leaf}
use Rattle.lxtr_image.proofs.nodes.is_leaf_at.Goals as goal

pub returns : goal.returns
unfolding is_leaf
returns c = ap top_bit c.base_word_at.ensures
