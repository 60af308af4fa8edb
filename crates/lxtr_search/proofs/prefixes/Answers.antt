-- A refusal is passed on.
use Rattle.std.proofs.Common.{[]}
use Rattle.lxtr_laws.specs.Failures.{number_not_0}
use Rattle.lxtr_laws.specs.SearchReturns.{passed_err, prefixes_refused}
use Rattle.lxtr_search.specs.Answers.{found_answer, found_refusal}
use Rattle.lxtr_search.proofs.prefixes.Goals as goal

pub returns-in_err-put_prefixes : goal.returns-in_err-put_prefixes
returns-in_err-put_prefixes c =
    rw (passed_err _ _ c.from_residual.ensures.1)
    (prefixes_refused _ _ _ (found_refusal _ _ _ _ c.in_err-put_prefixes.ensures) (number_not_0 _) _ (found_answer _ []))
