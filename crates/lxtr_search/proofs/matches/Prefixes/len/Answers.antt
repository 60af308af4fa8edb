-- As many matches as places that are used.
use Rattle.std.proofs.Common.{◌∙◌, sym, ap, length, arith}
use Rattle.lxtr_search.specs.Places.{used_count}
use Rattle.lxtr_search.proofs.matches.Prefixes.len.Goals as goal

pub returns-clause-value : goal.returns-clause-value
returns-clause-value c = sym (used_count _ _ _ c.self.invariant) ∙ ap length c.self.view_is

pub returns-clause-limit : goal.returns-clause-limit
returns-clause-limit c = omega (arith, ap length c.self.view_is, used_count _ _ _ c.self.invariant, c.self.invariant.within)
