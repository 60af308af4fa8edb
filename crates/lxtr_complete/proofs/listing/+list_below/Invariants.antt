-- Measure: the number of labels that are still allowed. What is left to do, done from the present state, gives the whole.
use Rattle.std.proofs.Common.{◌≡◌}
use Rattle.lxtr_complete.specs.Answers.{state_of}
use Rattle.lxtr_complete.specs.Listing.{ListedSoFar}
use Rattle.lxtr_complete.proofs.listing.+list_below.Given as goal

abbrev pub decreases-list_below : goal.decreases-list_below
decreases-list_below l = l.left

abbrev pub invariant-loop-j : goal.invariant-loop-j
invariant-loop-j l = ListedSoFar l.accepted l.left l.n l.len l.end l.first l.j l.fn.path l.path (state_of l.initial.records) (state_of l.records)
    × (l.records.room.ghost_name ≡ l.fn.records.room.ghost_name)
