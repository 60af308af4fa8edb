-- The labels first, and then the length byte before them.
use Rattle.std.proofs.Common.{rules, ◌<◌, ◌^◌}
use Rattle.lxtr_words.specs.KeyWriting.{length_byte, key_put}
use Rattle.lxtr_words.proofs.writing.Word.put_key.Goals as goal

pub overflow_cast-out : goal.overflow_cast-out
overflow_cast-out c = let h : c.put_labels-count.result < 2 ^ 8 = length_byte c.args.self.now.text.now c.args.self.now.start c.args.self.now.right _ c.put_labels-count.ensures.value in search rules

pub returns-clause-out_after : goal.returns-clause-out_after
returns-clause-out_after c =
    key_put c.args.self.now.text.now c.args.self.now.start c.args.self.now.right c.args.out.now c.args.at _ c.put_labels-count.ensures.value _ c.requires c.put_labels-count.ensures.out_after
