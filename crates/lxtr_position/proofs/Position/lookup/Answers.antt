-- A refusal is passed on.
use Rattle.lxtr_spec.specs.Positions.{position_lookup_of}
use Rattle.lxtr_laws.specs.RefusalChains.{stands}
use Rattle.lxtr_laws.specs.Failures.{number_not_0}
use Rattle.lxtr_laws.specs.SearchReturns.{passed_err}
use Rattle.lxtr_position.proofs.Position.lookup.Goals as goal

pub returns-in_err-opened : goal.returns-in_err-opened
unfolding position_lookup_of
returns-in_err-opened c = rw (passed_err _ _ c.from_residual.ensures.1, ← c.in_err-opened.ensures.refusal, stands _ _ _ (number_not_0 _))
