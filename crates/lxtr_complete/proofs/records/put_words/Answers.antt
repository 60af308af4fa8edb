-- Each turn lays one more word after the others.
use Rattle.std.proofs.Common.{take_all, arith, le_refl}
use Rattle.lxtr_laws.specs.ByteOrders.{big}
use Rattle.lxtr_laws.specs.Overlays.{words_start, words_next}
use Rattle.lxtr_complete.proofs.records.put_words.Goals as goal

pub loop-i-init : goal.loop-i-init
loop-i-init c = words_start big _ c.args.words.now _

pub loop-i-preserved : goal.loop-i-preserved
loop-i-preserved c = words_next big _ _ _ _ c.requires (le_refl _) _ _ c.loop-i.invariant _ (omega arith) c.put_be32.ensures

pub returns : goal.returns
returns c = rw (take_all c.loop-i.i c.args.words.now (omega arith)) at c.loop-i.invariant
