-- All keys are slot 1's group; for their labels the tables agree with the code map.
use Rattle.std.proofs.Common.{arith, rules}
use Rattle.lxtr_spec.specs.Labels.{max_labels}
use Rattle.lxtr_spec.specs.Builds.{slots_in}
use Rattle.lxtr_place.specs.AllKeys.{all_placeable, all_indexed, root_fresh, all_placed}
use Rattle.lxtr_place.proofs.place_all.Goals as goal

pub of_cleared-requires : goal.of_cleared-requires
unfolding slots_in
of_cleared-requires c = omega arith

pub invariant_of-all : goal.invariant_of-all
invariant_of-all c = record { placeable = all_placeable _ _ c.count.ensures _ _ _ c.args.tables.now.keys.passed c.args.tables.now.right; indexed = all_indexed _ _ _ c.args.tables.now.keys.passed c.count.ensures c.put_starts.ensures.starts_put c.put_starts.ensures.starts_len_unchanged }

pub place-requires-clause-fresh : goal.place-requires-clause-fresh
place-requires-clause-fresh c = root_fresh _ c.requires _ c.slots_in-slots.ensures

pub place-requires-clause-deep : goal.place-requires-clause-deep
unfolding max_labels
place-requires-clause-deep c = omega arith

pub place-requires-clause-long : goal.place-requires-clause-long
unfolding max_labels
place-requires-clause-long c = omega (arith, c.args.tables.now.keys.passed.few, c.count.ensures)

pub returns : goal.returns
unfolding max_labels
returns c =
    let done = all_placed _ _ _ _ _ c.args.tables.now.right c.requires _ _ _ c.slots_in-slots.ensures c.count.ensures c.place.ensures.words_after in
    search (rules, done)
