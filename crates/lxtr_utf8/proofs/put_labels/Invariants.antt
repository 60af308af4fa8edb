-- The characters so far are in the room.
use Rattle.std.proofs.Common.{◌≡◌, ◌*◌, length}
use Rattle.std.specs.Str.{chars}
use Rattle.lxtr_spec.specs.Numbers.{be_words}
use Rattle.lxtr_laws.specs.Overlays.{WordsIn}
use Rattle.lxtr_utf8.proofs.put_labels.Given as goal

abbrev pub invariant-loop-c : goal.invariant-loop-c
invariant-loop-c l = (l.at ≡ 4 * length l.yielded) × WordsIn be_words l.initial.room (chars l.text) 0 (length l.yielded) l.room
