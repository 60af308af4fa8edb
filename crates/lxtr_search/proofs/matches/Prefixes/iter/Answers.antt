-- No more places are used than there are.
use Rattle.std.proofs.Common.{length, ap, arith}
use Rattle.lxtr_search.specs.Places.{used_count}
use Rattle.lxtr_search.proofs.matches.Prefixes.iter.Goals as goal

pub returns-clause-limit : goal.returns-clause-limit
returns-clause-limit c = omega (arith, ap length c.self.view_is, used_count _ _ _ c.self.invariant, c.self.invariant.within)
