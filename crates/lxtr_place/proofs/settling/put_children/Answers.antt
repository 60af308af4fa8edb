use Rattle.lxtr_build_laws.specs.SlotLoops.{steps_start}
use Rattle.lxtr_place.specs.SettlingWords.{put_inside, put_next, put_end}
use Rattle.lxtr_place.proofs.settling.put_children.Goals as goal

pub loop-code-init : goal.loop-code-init
loop-code-init c = search steps_start

pub put_child-requires-clause-code_in_bounds : goal.put_child-requires-clause-code_in_bounds
put_child-requires-clause-code_in_bounds c = search put_inside

pub loop-code-preserved : goal.loop-code-preserved
loop-code-preserved c = search put_next

pub returns : goal.returns
returns c = search put_end
