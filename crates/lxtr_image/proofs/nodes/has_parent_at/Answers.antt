-- A slot that does not exist has no parent; if it exists, its parent is compared.
use Rattle.std.proofs.Common.{rules}
use Rattle.lxtr_laws.specs.Stepping.{parent_inside, parent_outside}
use Rattle.lxtr_image.proofs.nodes.has_parent_at.Goals as goal

pub returns-then-t-slot_count : goal.returns-then-t-slot_count
returns-then-t-slot_count c = search (parent_inside, rules)

pub returns-else-t-slot_count : goal.returns-else-t-slot_count
returns-else-t-slot_count c = search (parent_outside, rules)
