-- N and E are those of the definitions.
use Rattle.lxtr_write.specs.SectionWriting.{slots_inside, slots_enough, slots_of_image, children_counted}
use Rattle.lxtr_write.specs.WriteOutcomes.{image_answered}
use Rattle.lxtr_write.proofs.put_image.Goals as goal

pub slots_used-slots-requires-clause-slots : goal.slots_used-slots-requires-clause-slots
slots_used-slots-requires-clause-slots c = search slots_inside

pub slots_used-slots-requires-clause-le_slots : goal.slots_used-slots-requires-clause-le_slots
slots_used-slots-requires-clause-le_slots c = search slots_enough

pub taken_count-children-requires : goal.taken_count-children-requires
taken_count-children-requires c = search slots_of_image

pub invariant_of-filled : goal.invariant_of-filled
invariant_of-filled c = record { room = search slots_of_image }

pub put_fitting-requires-clause-counted : goal.put_fitting-requires-clause-counted
put_fitting-requires-clause-counted c = search children_counted

pub returns : goal.returns
returns c = search image_answered
