-- One byte more, and at the end none is left.
use Rattle.std.proofs.Common.{refl}
use Rattle.lxtr_text.specs.Writing.{piece_written, all_written}
use Rattle.lxtr_lines.specs.KeyLines.{digit_pieces}
use Rattle.lxtr_lines.proofs.append_bytes.Goals as goal

pub loop-x-preserved : goal.loop-x-preserved
loop-x-preserved c = piece_written digit_pieces c.args.line.now _ c.args.bytes.now _ _ c.loop-x.invariant _ _ c.loop-x-test.true refl c.two_digits.ensures

pub returns : goal.returns
returns c = all_written digit_pieces c.args.line.now _ c.args.bytes.now _ _ c.loop-x.invariant c.loop-x-test.false
