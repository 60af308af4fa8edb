-- The loop ends where no piece follows.
use Rattle.std.proofs.Common.{arith}
use Rattle.romaji.specs.Progress.{reached_within}
use Rattle.romaji.specs.Writing.{write_start, write_room, write_next, write_stop}
use Rattle.romaji.proofs.pieces.Conversion.put.Goals as goal

pub loop-piece-init : goal.loop-piece-init
loop-piece-init c = write_start _ _ _ _ _

pub put_piece-count-requires-clause-at_in_bounds : goal.put_piece-count-requires-clause-at_in_bounds
put_piece-count-requires-clause-at_in_bounds c = (reached_within _ _ _ _ _ _ c.loop-piece.invariant.reached _ c.in-Some.ensures.next).0

pub put_piece-count-requires-clause-value_in_bounds : goal.put_piece-count-requires-clause-value_in_bounds
put_piece-count-requires-clause-value_in_bounds c = write_room _ _ _ _ _ _ _ _ c.loop-piece.invariant c.requires _ c.in-Some.ensures.next

pub loop-piece-smaller : goal.loop-piece-smaller
loop-piece-smaller c =
    let within = reached_within _ _ _ _ _ _ c.loop-piece.invariant.reached _ c.in-Some.ensures.next in
    omega (arith, within.1, within.2)

pub loop-piece-preserved : goal.loop-piece-preserved
loop-piece-preserved c =
    write_next _ _ _ _ _ _ _ _ c.loop-piece.invariant c.requires _ c.in-Some.ensures.next _ _ c.put_piece-count.ensures.value c.put_piece-count.ensures.room_after

pub returns : goal.returns
returns c = write_stop _ _ _ _ _ _ _ _ c.loop-piece.invariant (rw c.in_default.is at c.piece.ensures.next)
