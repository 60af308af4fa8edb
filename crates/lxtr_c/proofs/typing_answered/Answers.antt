-- After a refusal the bytes stay; otherwise they hold the next state.
use Rattle.std.proofs.Common.{sym, rules}
use Rattle.lxtr_spec.specs.Refusals.{unless_refused}
use Rattle.lxtr_laws.specs.RefusalChains.{stands}
use Rattle.lxtr_c.specs.TypingNumbers.{typing_number_not_0}
use Rattle.lxtr_c.proofs.typing_answered.Goals as goal

pub returns-in-Ok-clause-bytes_after : goal.returns-in-Ok-clause-bytes_after
unfolding unless_refused
returns-in-Ok-clause-bytes_after c = rw c.in-Ok.is (search rules)

pub returns-in-Err-clause-bytes_after : goal.returns-in-Err-clause-bytes_after
returns-in-Err-clause-bytes_after c = rw c.in-Err.is (sym (stands _ _ _ (typing_number_not_0 _)))
