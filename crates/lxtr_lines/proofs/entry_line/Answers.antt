-- One part after the other.
use Rattle.std.proofs.Common.{arith, rules}
use Rattle.std.proofs.lemmas.Grind.{common_steps}
use Rattle.lxtr_command_spec.specs.Forms.{entry_line}
use Rattle.lxtr_text.specs.Writing.{wrote_wrote, line_filled}
use Rattle.lxtr_lines.proofs.entry_line.Goals as goal

pub returns : goal.returns
unfolding entry_line
returns c =
    line_filled c.args.line.now _ _ _ c.new-out.result c.push-2.new.self (search rules) c.new-out.ensures.end (grind (arith, wrote_wrote)) (grind (arith, common_steps)) c.len.ensures
