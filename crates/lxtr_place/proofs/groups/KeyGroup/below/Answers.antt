use Rattle.std.proofs.Common.{arith, refl, ◌+◌, ◌^◌}
use Rattle.std.specs.Int.{w64}
use borrow.Author.Rules.{Fits-under}
use Rattle.lxtr_spec.specs.Labels.{max_labels}
use Rattle.lxtr_place.specs.GroupLoops.{found_group, found_started, below_group, below_started, below_is, child_placeable}
use Rattle.lxtr_place.proofs.groups.KeyGroup.below.Goals as goal

pub run_of-count-requires : goal.run_of-count-requires
run_of-count-requires c = found_group _ c.args.self.now.span c.args.self.now.placeable.grouped _ c.skip_to-skipped.ensures.to _ c.start_of.ensures

pub overflow_add-result : goal.overflow_add-result
unfolding max_labels
overflow_add-result c = Fits-under w64 (c.args.self.now.span.depth + 1) (2 ^ 32) (omega arith) tt

pub invariant_of-result : goal.invariant_of-result
invariant_of-result c =
    let g = c.args.self.now.span in
    let whole = c.args.self.now.placeable.grouped in
    let front = found_group _ g whole _ c.skip_to-skipped.ensures.to _ c.start_of.ensures in
    let few = c.run_of-count.ensures.0 in
    let pairs = below_is _ c.args.x g _ _ few refl (rw (← c.start_of.ensures) at c.skip_to-skipped.ensures.rest) c.run_of-count.ensures.1 in
    record {
      placeable = child_placeable _ _ _ g _ c.args.x c.args.self.now.placeable (below_group _ c.args.x g _ _ few refl front c.requires) pairs;
      indexed = below_started _ c.args.x g _ _ few refl _ (found_started _ g whole _ c.skip_to-skipped.ensures.to _ c.start_of.ensures _ c.args.self.now.indexed);
    }

pub returns-clause-pairs_value : goal.returns-clause-pairs_value
returns-clause-pairs_value c = below_is _ c.args.x c.args.self.now.span _ _ c.run_of-count.ensures.0 refl (rw (← c.start_of.ensures) at c.skip_to-skipped.ensures.rest) c.run_of-count.ensures.1
