-- The labels of the pieces so far are at the front of the room.
use Rattle.std.proofs.Common.{◌-◌, length}
use Rattle.romaji.specs.Writing.{Wrote}
use Rattle.romaji.proofs.pieces.Conversion.put.Given as goal

abbrev pub invariant-loop-piece : goal.invariant-loop-piece
invariant-loop-piece l = Wrote l.self.keeping l.self.keys l.self.kana l.self.text l.initial.room l.at l.count l.room

abbrev pub decreases-loop-piece : goal.decreases-loop-piece
decreases-loop-piece l = length l.self.text - l.at
