-- The two tests of the definition.
use Rattle.std.proofs.Common.{rules}
use Rattle.lxtr_check.specs.Checks.{end_tested}
use Rattle.lxtr_check.proofs.is_end.Goals as goal

pub returns : goal.returns
returns c = search (end_tested, rules)
