-- The first problem of a line, or what the words of all lines give.
use Rattle.lxtr_words.specs.ListReturns.{problem_found, lines_right, lines_listed}
use Rattle.lxtr_words.proofs.key_list.Goals as goal

pub returns-in-Some : goal.returns-in-Some
returns-in-Some c = problem_found c.args.text.now _ c.in-Some.ensures c.args.out.now

pub list_lines-requires : goal.list_lines-requires
list_lines-requires c = lines_right c.args.text.now c.in_default.ensures

pub returns : goal.returns
returns c = lines_listed c.args.text.now c.in_default.ensures c.args.out.now _ c.list_lines.ensures
