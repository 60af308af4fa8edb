-- A word without a problem has no more labels than a key may have.
use Rattle.std.proofs.Common.{◌∙◌}
use Rattle.lxtr_command_spec.specs.Utf8.{decoded_in}
use Rattle.lxtr_words.specs.KeyWriting.{or_zero, count_is, count_small}
use Rattle.lxtr_words.proofs.writing.Word.label_count.Goals as goal

pub returns : goal.returns
returns c =
    let n = c.unwrap_or.ensures ∙ or_zero c.count_labels.result in
    let w = decoded_in c.count_labels.result in (
      n ∙ count_is c.args.self.now.text.now c.args.self.now.start c.args.self.now.right _ w c.word_at.ensures c.count_labels.ensures,
      rw n (count_small c.args.self.now.text.now c.args.self.now.start c.args.self.now.right _ w c.word_at.ensures c.count_labels.ensures),
    )
