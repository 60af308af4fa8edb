use Rattle.lxtr_fit.specs.Fitting.{blocks_found, blocks_next, blocks_none}
use Rattle.lxtr_fit.proofs.fitting.fit_from.Goals as goal

pub returns-then-bases-ne0 : goal.returns-then-bases-ne0
returns-then-bases-ne0 c = search blocks_found

pub loop-block-preserved : goal.loop-block-preserved
loop-block-preserved c = search blocks_next

pub returns : goal.returns
returns c = search blocks_none
