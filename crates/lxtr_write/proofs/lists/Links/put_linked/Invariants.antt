-- The offsets and the lists of the slots before p are written.
use Rattle.lxtr_write.specs.ListWriting.{ListsSoFar}
use Rattle.lxtr_write.proofs.lists.Links.put_linked.Given as goal

abbrev pub invariant-loop-p : goal.invariant-loop-p
invariant-loop-p l = ListsSoFar l.self.filled.now.work.now l.self.filled.now.slots l.self.filled.now.last l.fn.out l.at l.out l.e l.p
