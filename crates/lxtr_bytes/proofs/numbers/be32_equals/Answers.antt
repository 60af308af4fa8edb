-- Numbers of four bytes are equal in one order exactly when they are equal in the other.
use Rattle.std.proofs.Common.{rules}
use Rattle.lxtr_bytes.specs.Swapping.{equal_words}
use Rattle.lxtr_bytes.proofs.numbers.be32_equals.Goals as goal

pub returns : goal.returns
returns c = search (equal_words, rules)
