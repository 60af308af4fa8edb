-- A refusal is passed on; without one, the answer is the highest value of the ends.
use Rattle.std.proofs.Common.{◌∙◌}
use Rattle.lxtr_highest.specs.Bounds.{highest_refused, highest_passed}
use Rattle.lxtr_highest.proofs.highest.Goals as goal

pub returns-in_err-accepted : goal.returns-in_err-accepted
returns-in_err-accepted c = highest_refused _ _ _ c.from_residual.ensures.1 c.in_err-accepted.ensures.refusal

pub returns : goal.returns
returns c =
    let value = rw (c.image.ensures.value ∙ c.in_ok-accepted.ensures.bytes) at c.highest_value.ensures in
    highest_passed _ _ c.in_ok-accepted.ensures.refusal value
