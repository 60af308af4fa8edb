-- The children so far are written, and t is the next one. No code between two linked children has a child.
use Rattle.lxtr_spec.specs.Placing.{base_at}
use Rattle.lxtr_write.specs.Links.{ahead}
use Rattle.lxtr_write.specs.ListWriting.{Following}
use Rattle.lxtr_write.proofs.lists.Links.put_children.Given as goal

abbrev pub invariant-loop-t : goal.invariant-loop-t
invariant-loop-t l = Following l.self.filled.now.work.now l.self.filled.now.slots l.self.filled.now.last l.p l.fn.out l.at l.start l.out l.e l.t

abbrev pub decreases-loop-t : goal.decreases-loop-t
decreases-loop-t l = ahead (base_at l.self.filled.now.work.now l.p) l.self.filled.now.last l.t
