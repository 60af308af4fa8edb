-- One word after the other.
use Rattle.std.proofs.Common.{arith, rules}
use Rattle.std.proofs.lemmas.Grind.{common_steps}
use Rattle.lxtr_text.specs.Writing.{wrote_wrote, line_filled}
use Rattle.lxtr_lines.proofs.joined.Goals as goal

pub returns : goal.returns
returns c =
    line_filled c.args.line.now _ _ _ c.new-out.result c.push_all-2.new.self (search rules) c.new-out.ensures.end (grind (arith, wrote_wrote)) (grind (arith, common_steps)) c.len.ensures
