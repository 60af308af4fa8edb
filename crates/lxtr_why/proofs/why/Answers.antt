-- A refusal is passed on; otherwise it is the reason.
use Rattle.lxtr_spec.specs.Refusals.{unless_refused}
use Rattle.lxtr_spec.specs.Reasons.{why_of}
use Rattle.lxtr_laws.specs.RefusalChains.{stands}
use Rattle.lxtr_laws.specs.Failures.{number_not_0}
use Rattle.lxtr_laws.specs.SearchReturns.{passed_err}
use Rattle.lxtr_why.proofs.why.Goals as goal

pub returns-in_err-open : goal.returns-in_err-open
unfolding why_of
returns-in_err-open c = rw (passed_err _ _ c.from_residual.ensures.1, ← c.in_err-open.ensures.refusal, stands _ _ _ (number_not_0 _))

pub returns : goal.returns
unfolding why_of unless_refused
returns c = rw (← c.in_ok-open.ensures.refusal, c.reason.ensures, c.in_ok-open.ensures.bytes)
