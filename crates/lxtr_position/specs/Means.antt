-- What a position means: the position of the definitions.
use Rattle.lxtr_spec.specs.Positions.{TypingPosition}
use Rattle.lxtr_position.specs.declared.Position.{Position}

abbrev pub position_means : Position → TypingPosition
position_means p = record { slot = p.slot; walked = p.walked; typed = p.typed }
