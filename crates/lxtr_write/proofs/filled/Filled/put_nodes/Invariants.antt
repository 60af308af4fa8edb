-- The first i words of the work are written.
use Rattle.lxtr_spec.specs.Numbers.{le_words}
use Rattle.lxtr_spec.specs.Image.{nodes_at}
use Rattle.lxtr_laws.specs.Overlays.{WordsIn}
use Rattle.lxtr_write.proofs.filled.Filled.put_nodes.Given as goal

abbrev pub invariant-loop-i : goal.invariant-loop-i
invariant-loop-i l = WordsIn le_words l.fn.out l.self.work.now nodes_at l.i l.out
