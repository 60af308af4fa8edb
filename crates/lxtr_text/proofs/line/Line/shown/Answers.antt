-- A character is shown as itself unless it is a control character.
use Rattle.std.proofs.Common.{◌∙◌, ap}
use Rattle.lxtr_text.specs.Writing.{wrote}
use Rattle.lxtr_text.specs.Characters.{shown_as_itself, control_replaced, other_replaced}
use Rattle.lxtr_text.proofs.line.Line.shown.Goals as goal
use Rattle.lxtr_text.proofs.line.Line.shown.Goals.{in_default-via-in-Some+else-not-is_control, in_default-via-in_default}

pub returns-in-Some : goal.returns-in-Some
returns-in-Some c = c.character.ensures ∙ ap (wrote c.args.self.now) (shown_as_itself _ _ c.in-Some.ensures.value _ c.is_control.ensures c.if-not-is_control.true)

pub returns-in_default : goal.returns-in_default
returns-in_default c =
    c.character-in_default.ensures
    ∙ ap (wrote c.args.self.now)
    (elim c.in_default.branch [
      | in_default-via-in-Some+else-not-is_control w ↦ control_replaced _ _ w.in-Some.ensures.value _ w.is_control.ensures w.if-not-is_control.false
      | in_default-via-in_default w ↦ other_replaced _ w.in_default.ensures.value
    ])
