-- What the whole query reaches from slot 1 is what the labels that are left reach from slot n.
use Rattle.std.proofs.Common.{◌≡◌, ◌<◌}
use Rattle.lxtr_spec.specs.Image.{slot_count}
use Rattle.lxtr_spec.specs.Labels.{labels_of}
use Rattle.lxtr_spec.specs.Walks.{walk}
use Rattle.lxtr_walk.proofs.walk.Given as goal

abbrev pub invariant-loop-label : goal.invariant-loop-label
invariant-loop-label l = (l.n < slot_count l.image) × (walk l.image 1 (labels_of l.query) ≡ walk l.image l.n l.label-iterator)
