-- A refusal is passed on; otherwise the part is as long as the last match, which lies within the query.
use Rattle.std.proofs.Common.{refl, sym, length-take-le}
use Rattle.lxtr_laws.specs.Failures.{number_not_0}
use Rattle.lxtr_laws.specs.SearchReturns.{passed_err, longest_refused, longest_passed}
use Rattle.lxtr_search.specs.Longest.{longest_is, longest_end}
use Rattle.lxtr_search.proofs.longest.Goals as goal

pub returns-in_err-open : goal.returns-in_err-open
returns-in_err-open c = rw (passed_err _ _ c.from_residual.ensures.1) (longest_refused _ _ _ c.in_err-open.ensures.refusal (number_not_0 _))

pub slice_bounds-result-end : goal.slice_bounds-result-end
slice_bounds-result-end c =
    let last = rw c.in-None.ensures.steps.0 at c.loop-m.invariant in
    sym (length-take-le _ _ (longest_end _ _ _ last))

pub returns : goal.returns
returns c =
    let last = rw c.in-None.ensures.steps.0 at c.loop-m.invariant in
    longest_passed _ _ _ c.in_ok-open.ensures.refusal refl _ (longest_is _ _ _ last)
