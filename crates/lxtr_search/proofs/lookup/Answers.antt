-- After a refusal the case is Neither; otherwise it is the case at the slot where the walk ends.
use Rattle.std.proofs.Common.{refl}
use Rattle.lxtr_laws.specs.Failures.{number_not_0}
use Rattle.lxtr_laws.specs.SearchReturns.{passed_err, lookup_refused, lookup_passed}
use Rattle.lxtr_search.proofs.lookup.Goals as goal

pub returns-in_err-opened : goal.returns-in_err-opened
returns-in_err-opened c = rw (passed_err _ _ c.from_residual.ensures.1) (lookup_refused _ _ _ c.in_err-opened.ensures.refusal (number_not_0 _))

pub returns : goal.returns
returns c =
    let same = c.in_ok-opened.ensures.bytes in
    lookup_passed _ _ _ c.in_ok-opened.ensures.refusal refl _ _ (rw same at c.walk_within-slot.ensures.value) (rw same at c.case_at.ensures)
