-- One key more, and at the end none is left.
use Rattle.lxtr_words.specs.KeyWriting.{this_right, writing_start, writing_room, writing_next, writing_end}
use Rattle.lxtr_words.proofs.table.Words.put_keys.Goals as goal

pub loop-start-init : goal.loop-start-init
loop-start-init c = writing_start c.args.self.now.text.now c.starts-starts.result.now c.args.out.now (rw c.starts-starts.ensures.keys at c.requires)

pub invariant_of-word : goal.invariant_of-word
invariant_of-word c = record { right = this_right c.args.self.now.text.now c.starts-starts.result.now c.loop-start.start-index c.loop-start-test.true c.starts-starts.ensures.right }

pub put_key-at-requires : goal.put_key-at-requires
put_key-at-requires c = writing_room c.args.self.now.text.now c.starts-starts.result.now c.args.out.now _ _ _ c.loop-start.invariant c.loop-start-test.true

pub loop-start-preserved : goal.loop-start-preserved
loop-start-preserved c = writing_next c.args.self.now.text.now c.starts-starts.result.now c.args.out.now _ _ _ c.loop-start.invariant c.loop-start-test.true _ _ c.put_key-at.ensures.value c.put_key-at.ensures.out_after

pub returns : goal.returns
returns c = rw c.starts-starts.ensures.keys (writing_end c.args.self.now.text.now c.starts-starts.result.now c.args.out.now _ _ _ c.loop-start.invariant c.loop-start-test.false)
