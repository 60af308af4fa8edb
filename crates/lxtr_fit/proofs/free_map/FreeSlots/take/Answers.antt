use Rattle.lxtr_fit.specs.MapLoops.{take_done}
use Rattle.lxtr_fit.proofs.free_map.FreeSlots.take.Goals as goal

pub returns-clause-map_after : goal.returns-clause-map_after
returns-clause-map_after c = search take_done
