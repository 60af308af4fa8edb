use Rattle.std.proofs.Common.{◌∙◌, arith}
use Rattle.lxtr_build_laws.specs.SlotLoops.{steps_end}
use Rattle.lxtr_fit.specs.MapLoops.{taking_next}
use Rattle.lxtr_fit.proofs.free_map.FreeSlots.take_under.Goals as goal

pub take-requires : goal.take-requires
take-requires c = omega (arith, c.requires.each c.loop-code.code-index c.loop-code-test.true, c.slot_under.ensures)

pub loop-code-preserved : goal.loop-code-preserved
loop-code-preserved c = record { steps = search (taking_next, c.loop-code.invariant); lowest = c.take.ensures.lowest_unchanged ∙ c.loop-code.invariant.lowest }

pub returns-clause-map_after : goal.returns-clause-map_after
returns-clause-map_after c = search (steps_end, c.loop-code.invariant)
