-- Past the end of the table every text begins at the end; before it, one follows the other.
use Rattle.std.proofs.Common.{arith}
use Rattle.romaji.specs.Tables.{begins_next, begins_past}
use Rattle.romaji.proofs.tables.Kana.text_at.Goals as goal

pub returns-then-self-at : goal.returns-then-self-at
returns-then-self-at c = rw (← c.self.view_is) (begins_past _ _ _ c.loop.invariant _ (omega arith) c.if-self-at.true)

pub loop-preserved : goal.loop-preserved
loop-preserved c = begins_next _ _ _ c.loop.invariant _ c.text_end-at.ensures
