-- The bytes before this one are in the array, and zeros behind them.
use Rattle.romaji.specs.Texts.{RestPut}
use Rattle.romaji.proofs.texts.Text.rest.Given as goal

abbrev pub invariant-loop-i : goal.invariant-loop-i
invariant-loop-i l = RestPut l.self l.at l.i l.kept
