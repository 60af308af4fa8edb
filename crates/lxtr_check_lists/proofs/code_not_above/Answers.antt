-- The first entry has none before it; for any other entry the two codes are compared.
use Rattle.std.proofs.Common.{rules}
use Rattle.lxtr_check_lists.specs.ListTests.{code_first, code_later}
use Rattle.lxtr_check_lists.proofs.code_not_above.Goals as goal

pub returns-then-j-offset : goal.returns-then-j-offset
returns-then-j-offset c = search (code_first, rules)

pub returns : goal.returns
returns c = search (code_later, rules)
