-- The size is the length of the image: the image does not fit, or it is written.
use Rattle.std.proofs.Common.{arith}
use Rattle.lxtr_write.specs.SectionWriting.{is_image_length}
use Rattle.lxtr_write.specs.WriteOutcomes.{image_short, image_fits}
use Rattle.lxtr_write.proofs.filled.Filled.put_fitting.Goals as goal

pub returns-then-out-size : goal.returns-then-out-size
returns-then-out-size c = image_short _ _ (omega (arith, is_image_length _ _ _ c.args.tables.now.labels.now c.args.tables.now.order.now c.args.self.now.room c.requires.counted))

pub returns : goal.returns
returns c = image_fits _ _ _ _ (is_image_length _ _ _ _ _ c.args.self.now.room c.requires.counted) c.if-out-size.false c.put_sections.ensures
