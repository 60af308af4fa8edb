-- The first label, and a space before each other one.
use Rattle.std.proofs.Common.{arith, sym, ◌∙◌}
use Rattle.lxtr_text.specs.Writing.{wrote_wrote, wrote_none}
use Rattle.lxtr_lines.specs.KeyLines.{none_spaced, spaced_parts}
use Rattle.lxtr_lines.proofs.keys.append_spaced.Goals as goal

pub returns-in-Some : goal.returns-in-Some
returns-in-Some c = rw (spaced_parts _ _ _ (sym c.of-left.ensures ∙ c.in-Some.ensures.steps)) (grind (arith, wrote_wrote))

pub returns-in_default : goal.returns-in_default
returns-in_default c = rw (none_spaced _ (sym c.of-left.ensures ∙ c.in_default.ensures.steps.0)) (sym (wrote_none c.args.line.now))
