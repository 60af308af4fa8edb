-- The code of the label is what the search of the places from i up gives.
use Rattle.std.proofs.Common.{◌≡◌, ◌-◌}
use Rattle.lxtr_spec.specs.Image.{label_count, code_from}
use Rattle.lxtr_image.proofs.Image.code_from.Given as goal

abbrev pub invariant-loop-i : goal.invariant-loop-i
invariant-loop-i l = code_from l.self l.label (label_count l.self - l.from) l.from ≡ code_from l.self l.label (label_count l.self - l.i) l.i
