-- The labels counted and those that may still go out are all that may.
use Rattle.std.proofs.Common.{◌-◌, length}
use Rattle.romaji.specs.Counting.{Counted}
use Rattle.romaji.proofs.pieces.Conversion.fits.Given as goal

abbrev pub invariant-loop-piece : goal.invariant-loop-piece
invariant-loop-piece l = Counted l.self.keeping l.self.keys l.self.kana l.self.text l.room l.at l.left

abbrev pub decreases-loop-piece : goal.decreases-loop-piece
decreases-loop-piece l = length l.self.text - l.at
