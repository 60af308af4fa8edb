-- The labels of one word more.
use Rattle.lxtr_words.specs.KeyWriting.{this_right, sum_start, sum_next, sum_end}
use Rattle.lxtr_words.proofs.table.Words.list_length.Goals as goal

pub loop-start-init : goal.loop-start-init
loop-start-init c = sum_start c.args.self.now.text.now c.starts-starts.result.now

pub invariant_of-word : goal.invariant_of-word
invariant_of-word c = record { right = this_right c.args.self.now.text.now c.starts-starts.result.now c.loop-start.start-index c.loop-start-test.true c.starts-starts.ensures.right }

pub loop-start-preserved : goal.loop-start-preserved
loop-start-preserved c = sum_next c.args.self.now.text.now c.starts-starts.result.now _ _ c.loop-start.invariant _ c.loop-start-test.true c.label_count.ensures.0 c.label_count.ensures.1

pub returns : goal.returns
returns c = rw c.starts-starts.ensures.keys (sum_end c.args.self.now.text.now c.starts-starts.result.now _ _ c.loop-start.invariant c.loop-start-test.false)
