-- The row at hand, or those after it.
use Rattle.std.proofs.Common.{◌∙◌}
use Rattle.lxtr_arguments.specs.Rows.{this_row, next_row, no_row}
use Rattle.lxtr_arguments.proofs.answer_in.Goals as goal

pub returns : goal.returns
returns c = no_row c.args.table.now _ _ _ c.loop-text.invariant c.loop-text-test.false

pub returns-then-eq : goal.returns-then-eq
returns-then-eq c = c.taking.ensures ∙ this_row c.args.table.now _ _ _ c.loop-text.invariant _ c.loop-text-test.true _ c.eq.ensures c.if-eq.true

pub loop-text-preserved : goal.loop-text-preserved
loop-text-preserved c = next_row c.args.table.now _ _ _ c.loop-text.invariant _ c.loop-text-test.true _ c.eq.ensures c.if-eq.false
