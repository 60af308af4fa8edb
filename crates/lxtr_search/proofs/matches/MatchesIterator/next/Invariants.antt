-- The matches that are left are the same at each turn, and so is what the walk needs of the image. A turn takes a label.
use Rattle.std.proofs.Common.{◌≡◌, ◌<◌, ◌≤◌, ◌-◌, length, None}
use Rattle.lxtr_spec.specs.Labels.{max_labels}
use Rattle.lxtr_spec.specs.Image.{slot_count}
use Rattle.lxtr_search.specs.Matches.{matches_after}
use Rattle.lxtr_search.proofs.matches.MatchesIterator.next.Given as goal

abbrev pub invariant-loop-label : goal.invariant-loop-label
invariant-loop-label l = (l.self-inside.first ≡ None) × (matches_after l.self-inside.image l.self-inside.slot (l.self-inside.count - length l.self-inside.labels) l.self-inside.labels ≡ l.fn.self)
    × (l.self-inside.slot < slot_count l.self-inside.image) × (length l.self-inside.labels ≤ l.self-inside.count) × (l.self-inside.count ≤ max_labels)

abbrev pub decreases-loop-label : goal.decreases-loop-label
decreases-loop-label l = length l.self-inside.labels
