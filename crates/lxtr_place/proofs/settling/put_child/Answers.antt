-- The code decides: only the child's check is stored, or for an end its base too.
use Rattle.lxtr_place.specs.SettlingWords.{child_put, end_put}
use Rattle.lxtr_place.proofs.settling.put_child.Goals as goal

pub returns-then-code-ne0 : goal.returns-then-code-ne0
returns-then-code-ne0 c = search child_put

pub returns : goal.returns
returns c = search end_put
