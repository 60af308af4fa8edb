-- The array is that of the matches.
use Rattle.std.proofs.Common.{length, ap, arith}
use Rattle.lxtr_search.specs.Places.{used_count, filled_values}
use Rattle.lxtr_search.proofs.matches.Prefixes.values.Goals as goal

pub returns-clause-value : goal.returns-clause-value
returns-clause-value c = rw (← c.self.view_is) (filled_values _ _ _ c.self.invariant)

pub returns-clause-limit : goal.returns-clause-limit
returns-clause-limit c = omega (arith, ap length c.self.view_is, used_count _ _ _ c.self.invariant, c.self.invariant.within)
