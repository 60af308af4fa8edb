-- The labels so far are in the room, and those that are left are the rest of the text's.
use Rattle.std.proofs.Common.{◌≡◌, drop}
use Rattle.lxtr_spec.specs.Labels.{labels_of}
use Rattle.romaji.specs.Labels.{LabelsPut}
use Rattle.romaji.proofs.pieces.put_text.Given as goal

abbrev pub invariant-loop-i : goal.invariant-loop-i
invariant-loop-i l = (drop l.i-iterator.count (labels_of l.text) ≡ l.i-iterator.iter) × LabelsPut (labels_of l.text) l.initial.room l.at l.i-iterator.count l.room
