use Rattle.lxtr_fit.specs.Fitting.{bases_start, bases_none, bases_next, bases_end}
use Rattle.lxtr_fit.proofs.fitting.bases_in.Goals as goal

pub loop-code-init : goal.loop-code-init
loop-code-init c = search bases_start

pub returns-then-bases-eq0 : goal.returns-then-bases-eq0
returns-then-bases-eq0 c = search bases_none

pub loop-code-preserved : goal.loop-code-preserved
loop-code-preserved c = search bases_next

pub returns : goal.returns
returns c = search bases_end
