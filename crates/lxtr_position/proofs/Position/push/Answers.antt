-- A refusal is passed on.
use Rattle.lxtr_spec.specs.Positions.{push_of, moved_to, move_answer}
use Rattle.lxtr_laws.specs.RefusalChains.{stands}
use Rattle.lxtr_laws.specs.Failures.{number_not_0}
use Rattle.lxtr_laws.specs.SearchReturns.{passed_err}
use Rattle.lxtr_position.proofs.Position.push.Goals as goal

pub returns-in_err-opened : goal.returns-in_err-opened
unfolding push_of moved_to move_answer
returns-in_err-opened c = rw (passed_err _ _ c.from_residual.ensures.1, ← c.in_err-opened.ensures.refusal, stands _ _ _ (number_not_0 _))
