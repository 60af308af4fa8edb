-- Each turn is one of the laws of `CodeSearch`.
use Rattle.std.proofs.Common.{rules, arith, sym}
use Rattle.lxtr_image.specs.CodeSearch.{code_hit, code_miss, code_end}
use Rattle.lxtr_image.proofs.Image.code_from.Goals as goal

pub returns-then-has_label : goal.returns-then-has_label
returns-then-has_label c = code_hit _ _ _ _ _ c.loop-i.invariant _ (omega arith) c.has_label.ensures c.if-has_label.true

pub loop-i-preserved : goal.loop-i-preserved
loop-i-preserved c = code_miss _ _ _ _ _ c.loop-i.invariant _ (omega arith) c.has_label.ensures c.if-has_label.false

pub returns : goal.returns
returns c = code_end _ _ _ _ _ c.loop-i.invariant (omega arith)
