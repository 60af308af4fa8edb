-- An unused slot is not looked for. A used one has a parent, which is a slot; it is unlisted if the parent's list does not have it.
use Rattle.std.proofs.Common.{◌∙◌}
use Rattle.lxtr_fault.specs.FaultTests.{unused_listed, parent_slot, listed_tested}
use Rattle.lxtr_fault.proofs.list_faults.unlisted.Goals as goal

pub returns-then-not-is_used_from_2 : goal.returns-then-not-is_used_from_2
returns-then-not-is_used_from_2 c = let used = rw (c.bytes.ensures.value ∙ c.image-image.ensures.value) at c.is_used_from_2.ensures in unused_listed _ _ _ used c.if-not-is_used_from_2.true

pub has_entry-requires : goal.has_entry-requires
has_entry-requires c =
    let used = rw (c.bytes.ensures.value ∙ c.image-image.ensures.value) at c.is_used_from_2.ensures in
    let up = rw c.image-image.ensures.value at c.parent.ensures in
    parent_slot _ _ _ used c.if-not-is_used_from_2.false _ up c.image-image.ensures.right c.requires

pub returns : goal.returns
returns c =
    let used = rw (c.bytes.ensures.value ∙ c.image-image.ensures.value) at c.is_used_from_2.ensures in
    let up = rw c.image-image.ensures.value at c.parent.ensures in
    listed_tested _ _ _ used c.if-not-is_used_from_2.false _ up _ c.has_entry.ensures
