-- `has_leaf` is a part of the check word.
use Rattle.std.proofs.Math.Path.{ap}
use Rattle.lxtr_spec.specs.Image.{top_bit, has_leaf}
use Rattle.lxtr_image.proofs.nodes.has_leaf_at.Goals as goal

pub returns : goal.returns
unfolding has_leaf
returns c = ap top_bit c.check_word_at.ensures
