-- The little-endian number with its bytes swapped is the big-endian one.
use Rattle.std.proofs.Common.{rules}
use Rattle.lxtr_bytes.specs.Swapping.{swapped_word}
use Rattle.lxtr_bytes.proofs.numbers.be32_at.Goals as goal

pub returns : goal.returns
returns c = search (swapped_word, rules)
