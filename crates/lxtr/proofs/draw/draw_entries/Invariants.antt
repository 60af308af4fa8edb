-- Slot p is not after the slot in whose list entry j lies.
use Rattle.std.proofs.Common.{◌≤◌}
use Rattle.lxtr_command_spec.specs.Drawings.{list_of}
use Rattle.lxtr.proofs.draw.draw_entries.Given as goal

abbrev pub invariant-loop-j : goal.invariant-loop-j
invariant-loop-j l = l.p ≤ list_of l.image l.j
