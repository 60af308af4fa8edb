-- The first wrong label ends the search; a label that is not wrong is put into its chain.
use Rattle.std.proofs.Common.{arith, sym, ◌∙◌, below_more}
use Rattle.lxtr_laws.specs.FirstPlaces.{is_first_in, no_first_in}
use Rattle.lxtr_check_labels.proofs.first_wrong_label.Goals as goal

pub returns-then-is_wrong : goal.returns-then-is_wrong
returns-then-is_wrong c =
    let wrong = rw c.loop-i.invariant.0 at c.is_wrong.ensures in
    is_first_in _ _ _ (omega (arith, c.label_count-i-end.ensures.value)) (sym wrong ∙ c.if-is_wrong.true) c.loop-i.invariant.1

pub loop-i-preserved : goal.loop-i-preserved
loop-i-preserved c =
    let wrong = rw c.loop-i.invariant.0 at c.is_wrong.ensures in
    let more = rw c.loop-i.invariant.0 at c.push.ensures in
    (more, below_more _ _ c.loop-i.invariant.1 (sym wrong ∙ c.if-is_wrong.false))

pub returns : goal.returns
returns c = no_first_in _ _ (λ k l. c.loop-i.invariant.1 k (omega (arith, c.label_count-i-end.ensures.value)))
