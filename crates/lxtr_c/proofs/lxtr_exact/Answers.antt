-- The number of what `exact` answers.
use Rattle.std.proofs.Common.{◌∙◌}
use Rattle.lxtr_c.proofs.lxtr_exact.Goals as goal

pub returns : goal.returns
returns c = c.found_numbered.ensures ∙ c.exact.ensures
