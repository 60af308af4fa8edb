-- One place follows the other.
use Rattle.std.proofs.Common.{arith, length-take-le}
use Rattle.romaji.specs.Tables.{places_start, places_next, places_end}
use Rattle.romaji.proofs.tables.Kana.new.Goals as goal

pub loop-place-init : goal.loop-place-init
loop-place-init c = places_start _ _ _ (length-take-le _ _ (omega arith))

pub loop-place-preserved : goal.loop-place-preserved
loop-place-preserved c = places_next _ _ _ _ _ c.loop-place.invariant _ c.text_end-at.ensures (omega arith)

pub invariant_of-result : goal.invariant_of-result
invariant_of-result c = places_end _ _ _ _ _ c.loop-place.invariant (omega arith) (omega arith) _
