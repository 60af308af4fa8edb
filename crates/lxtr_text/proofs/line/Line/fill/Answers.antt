-- The text of one byte more, and at the end none is left.
use Rattle.lxtr_text.specs.Filling.{byte_filled, all_filled}
use Rattle.lxtr_text.proofs.line.Line.fill.Goals as goal

pub loop-mark-preserved : goal.loop-mark-preserved
loop-mark-preserved c = byte_filled c.args.self.now _ _ _ _ _ c.loop-mark.invariant _ _ c.loop-mark-test.true c.piece.ensures c.left_after-left.ensures

pub returns : goal.returns
returns c = all_filled c.args.self.now _ _ _ _ _ c.loop-mark.invariant c.loop-mark-test.false
