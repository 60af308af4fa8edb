-- The child is read, and its label by its code.
use Rattle.lxtr_complete.specs.Listing.{inner_entry}
use Rattle.lxtr_complete.proofs.listing.entry_at.Goals as goal

pub returns : goal.returns
returns c = inner_entry _ _ _ _ _ c.child-slot.ensures c.code_under-code.ensures _ c.label.ensures
