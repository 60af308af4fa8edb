-- The bytes of an ASCII text are its labels.
use Rattle.lxtr_utf8.specs.Decoding.{counted_ascii}
use Rattle.lxtr_utf8.proofs.count_labels.Goals as goal

pub returns-then-is_ascii : goal.returns-then-is_ascii
returns-then-is_ascii c = counted_ascii c.args.text.now (rw c.if-is_ascii.true at c.is_ascii.ensures.cases)
