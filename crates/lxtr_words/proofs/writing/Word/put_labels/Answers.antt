-- The word has no problem and there is room, so its labels are decoded.
use Rattle.std.proofs.Common.{◌∙◌}
use Rattle.lxtr_command_spec.specs.Utf8.{decoded_in}
use Rattle.lxtr_words.specs.KeyWriting.{or_zero, labels_count, labels_put}
use Rattle.lxtr_words.proofs.writing.Word.put_labels.Goals as goal

pub returns-clause-value : goal.returns-clause-value
returns-clause-value c =
    c.unwrap_or.ensures ∙ or_zero c.decode.result
    ∙ labels_count c.args.self.now.text.now c.args.self.now.start c.args.self.now.right c.args.out.now c.args.at c.requires _ c.word_at.ensures (decoded_in c.decode.result) _ c.decode.ensures.answer

pub returns-clause-out_after : goal.returns-clause-out_after
returns-clause-out_after c =
    labels_put c.args.self.now.text.now c.args.self.now.start c.args.self.now.right c.args.out.now c.args.at c.requires _ c.word_at.ensures (decoded_in c.decode.result) _ c.decode.ensures.answer
