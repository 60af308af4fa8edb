-- A refusal of the header stands; otherwise it is 13 or none.
use Rattle.std.proofs.Common.{◌∙◌, rules, refl}
use Rattle.lxtr_laws.specs.Failures.{number_not_0, passed_on}
use Rattle.lxtr_laws.specs.SearchReturns.{header_stands, query_refused, search_allowed}
use Rattle.lxtr_walk.proofs.open.Goals as goal

pub returns-in_err-opened-clause-refusal : goal.returns-in_err-opened-clause-refusal
returns-in_err-opened-clause-refusal c =
    passed_on _ _ c.from_residual.ensures.1 ∙ (header_stands _ _ _ c.in_err-opened.ensures.refusal (number_not_0 _))

pub returns-then-query-ne0-clause-refusal : goal.returns-then-query-ne0-clause-refusal
returns-then-query-ne0-clause-refusal c = query_refused _ _ _ c.in_ok-opened.ensures.refusal refl (search rules)

pub returns-clause-refusal : goal.returns-clause-refusal
returns-clause-refusal c = search_allowed _ _ _ c.in_ok-opened.ensures.refusal refl (search rules)
