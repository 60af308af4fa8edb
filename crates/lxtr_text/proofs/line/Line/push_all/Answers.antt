-- One byte more, and at the end none is left.
use Rattle.std.proofs.Common.{refl}
use Rattle.lxtr_text.specs.Writing.{byte_pieces, piece_written, all_written}
use Rattle.lxtr_text.proofs.line.Line.push_all.Goals as goal

pub loop-x-preserved : goal.loop-x-preserved
loop-x-preserved c = piece_written byte_pieces c.args.self.now c.args.bytes.now c.args.bytes.now _ _ c.loop-x.invariant _ _ c.loop-x-test.true refl c.push.ensures

pub returns : goal.returns
returns c = all_written byte_pieces c.args.self.now c.args.bytes.now c.args.bytes.now _ _ c.loop-x.invariant c.loop-x-test.false
