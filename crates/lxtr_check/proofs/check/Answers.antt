-- A refusal is passed on; without one, the ends are counted.
use Rattle.std.proofs.Common.{◌∙◌}
use Rattle.lxtr_check.specs.Checks.{check_refused, check_counted}
use Rattle.lxtr_check.proofs.check.Goals as goal

pub returns-in_err-accepted : goal.returns-in_err-accepted
returns-in_err-accepted c = check_refused _ _ _ c.from_residual.ensures.1 c.in_err-accepted.ensures.refusal

pub returns : goal.returns
returns c =
    let ends = rw (c.image.ensures.value ∙ c.in_ok-accepted.ensures.bytes) at c.end_count.ensures in
    check_counted _ _ c.in_ok-accepted.ensures.refusal ends
