-- Measure: the characters that are left.
use Rattle.std.proofs.Common.{length}
use Rattle.example_lines.proofs.cursor.Cursor.number.Given as goal

abbrev pub decreases-loop-c : goal.decreases-loop-c
decreases-loop-c l = length l.self.rest.now
