-- The loop ends where no piece follows, or when there are more labels.
use Rattle.std.proofs.Common.{arith}
use Rattle.romaji.specs.Progress.{reached_within}
use Rattle.romaji.specs.Counting.{count_start, count_stop, count_over, count_next}
use Rattle.romaji.proofs.pieces.Conversion.fits.Goals as goal

pub loop-piece-init : goal.loop-piece-init
loop-piece-init c = count_start _ _ _ _ _

pub returns-then-left-count : goal.returns-then-left-count
returns-then-left-count c = count_over _ _ _ _ _ _ _ c.loop-piece.invariant _ c.in-Some.ensures.next _ c.out_count-count.ensures c.if-left-count.true

pub loop-piece-smaller : goal.loop-piece-smaller
loop-piece-smaller c =
    let within = reached_within _ _ _ _ _ _ c.loop-piece.invariant.reached _ c.in-Some.ensures.next in
    omega (arith, within.1, within.2)

pub loop-piece-preserved : goal.loop-piece-preserved
loop-piece-preserved c = count_next _ _ _ _ _ _ _ c.loop-piece.invariant _ c.in-Some.ensures.next _ c.out_count-count.ensures c.if-left-count.false

pub returns : goal.returns
returns c = count_stop _ _ _ _ _ _ _ c.loop-piece.invariant (rw c.in_default.is at c.piece.ensures.next)
