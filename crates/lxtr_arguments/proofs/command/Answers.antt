-- The table is that of the definition.
use Rattle.lxtr_command_spec.specs.Commands.{ascii_from, ascii, row, later_rows, command_of}
use Rattle.lxtr_arguments.specs.Rows.{answer_in}
use Rattle.lxtr_arguments.proofs.command.Goals as goal

pub returns : goal.returns
unfolding ascii_from ascii row later_rows command_of answer_in
returns c = c.answer_in.ensures
