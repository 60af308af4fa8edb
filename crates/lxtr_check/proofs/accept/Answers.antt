-- A refusal of the header is the answer; without one, the refusal of the rest is.
use Rattle.std.proofs.Common.{◌∙◌}
use Rattle.lxtr_laws.specs.Failures.{number_not_0, passed_on}
use Rattle.lxtr_laws.specs.Refused.{header_refused, body_refused}
use Rattle.lxtr_check.proofs.accept.Goals as goal

pub returns-in_err-read-clause-refusal : goal.returns-in_err-read-clause-refusal
returns-in_err-read-clause-refusal c = passed_on _ _ c.from_residual.ensures.1 ∙ header_refused _ _ c.in_err-read.ensures.refusal (number_not_0 _)

pub returns-clause-refusal : goal.returns-clause-refusal
returns-clause-refusal c = let body = rw c.in_ok-read.ensures.bytes at c.check.ensures.refusal in body_refused _ _ c.in_ok-read.ensures.refusal body
