-- The words of the first i places are at the front.
use Rattle.std.proofs.Common.{◌*◌}
use Rattle.lxtr_host.specs.PlaceWords.{WordsIn}
use Rattle.lxtr_host.proofs.places.put_places.Given as goal

abbrev pub invariant-loop-i : goal.invariant-loop-i
invariant-loop-i l = WordsIn l.lengths l.values l.fn.places l.places (2 * l.i)
