use Rattle.lxtr_keys.specs.KeyRefusals.{first_above, later_above}
use Rattle.lxtr_keys.proofs.refusals.not_above.Goals as goal

pub returns-in-None : goal.returns-in-None
returns-in-None c = rw c.in-None.is (first_above _ _ _)

pub returns-in-Some : goal.returns-in-Some
returns-in-Some c =
    let same = rw c.in-Some.is at c.requires in
    rw c.in-Some.is (later_above _ _ _ _ (rw same at c.comes_before.ensures))
