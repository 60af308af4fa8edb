-- The number of a refusal, of no value where the walk fails, or of the value at the slot reached: the value of the lookup.
use Rattle.std.proofs.Common.{refl}
use Rattle.lxtr_laws.specs.Failures.{number_not_0}
use Rattle.lxtr_laws.specs.SearchReturns.{passed_err}
use Rattle.lxtr_c.specs.EntryNumbers.{exact_refused, exact_nowhere, exact_reached}
use Rattle.lxtr_c.proofs.exact.Goals as goal

pub returns-in_err-opened : goal.returns-in_err-opened
returns-in_err-opened c = rw (passed_err _ _ c.from_residual.ensures.1) (exact_refused _ _ _ c.in_err-opened.ensures.refusal (number_not_0 _))

pub returns-in_default : goal.returns-in_default
returns-in_default c = let walked = rw c.in_ok-opened.ensures.bytes at c.in_default.ensures.value in exact_nowhere _ _ _ c.in_ok-opened.ensures.refusal refl _ walked refl

pub returns : goal.returns
returns c = let walked = rw c.in_ok-opened.ensures.bytes at c.in-Some.ensures.value in let value = rw c.in_ok-opened.ensures.bytes at c.value_at.ensures in exact_reached _ _ _ c.in_ok-opened.ensures.refusal refl _ walked _ _ refl value
