-- Each turn writes a pair. If the number of words is odd, the last word is a length.
use Rattle.std.proofs.Common.{arith, refl, ◌≡◌, ◌/◌}
use Rattle.lxtr_spec.specs.Labels.{max_labels}
use Rattle.lxtr_host.specs.PlaceWords.{pair_next, length_end, words_end}
use Rattle.lxtr_host.proofs.places.put_places.Goals as goal

pub loop-i-preserved : goal.loop-i-preserved
unfolding max_labels
loop-i-preserved c = pair_next _ _ _ _ c.loop-i.i _ _ c.min-count.ensures refl c.loop-i.invariant (omega arith)

pub returns-then-pairs-count : goal.returns-then-pairs-count
unfolding max_labels
returns-then-pairs-count c =
    let all : c.loop-i.i ≡ c.min-count.result / 2 = omega arith in
    rw (← all)
    (length_end _ _ _ _ c.loop-i.i _ _ c.min-count.ensures refl c.loop-i.invariant (omega arith) (omega arith))

pub returns-else-pairs-count : goal.returns-else-pairs-count
unfolding max_labels
returns-else-pairs-count c = words_end _ _ _ _ _ c.loop-i.invariant _ c.min-count.ensures (omega arith)
