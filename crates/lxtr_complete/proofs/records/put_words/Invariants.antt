-- The first i words are in the room.
use Rattle.lxtr_spec.specs.Numbers.{be_words}
use Rattle.lxtr_laws.specs.Overlays.{WordsIn}
use Rattle.lxtr_complete.proofs.records.put_words.Given as goal

abbrev pub invariant-loop-i : goal.invariant-loop-i
invariant-loop-i l = WordsIn be_words l.fn.room l.words l.at l.i l.room
