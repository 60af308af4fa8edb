-- All words are those of such a map; then slots 0 and 1 are taken.
use Rattle.std.proofs.Common.{arith}
use Rattle.lxtr_fit.specs.MapLoops.{setting_start, setting_next, setting_end}
use Rattle.lxtr_fit.proofs.free_map.FreeSlots.of_cleared.Goals as goal

pub loop-i-init : goal.loop-i-init
loop-i-init c = setting_start _ _ (omega arith)

pub loop-i-preserved : goal.loop-i-preserved
loop-i-preserved c = setting_next _ _ _ c.loop-i.invariant _ (omega (arith, c.loop-i.invariant.size)) c.word_below.ensures

pub returns : goal.returns
returns c = λ w clear. rw (c.take-2.ensures.lowest_unchanged, c.take.ensures.lowest_unchanged) (setting_end c.args.slots _ c.loop-i.i c.loop-i.invariant (omega (arith, c.loop-i.invariant.size)) c.requires w _ _ clear c.take.ensures.map_after c.take-2.ensures.map_after)
