-- The base is stored; the check changes only if the first code is 0.
use Rattle.lxtr_place.specs.SettlingWords.{parent_none, parent_plain, parent_of_end}
use Rattle.lxtr_place.proofs.settling.put_parent.Goals as goal

pub returns-then-codes-eq0 : goal.returns-then-codes-eq0
returns-then-codes-eq0 c = search parent_none

pub returns-then-codes-ne0 : goal.returns-then-codes-ne0
returns-then-codes-ne0 c = search parent_plain

pub returns : goal.returns
returns c = search parent_of_end
