-- The records come first, then version and count are written before them. The count fits, since an accepted image has few pairs.
use Rattle.std.proofs.Common.{arith, rules}
use Rattle.std.proofs.lemmas.Grind.{common_steps}
use Rattle.lxtr_complete.specs.Completing.{room_left, count_fits, pairs_done}
use Rattle.lxtr_complete.proofs.list_pairs.Goals as goal

pub finish-requires-clause-length : goal.finish-requires-clause-length
finish-requires-clause-length c = room_left _ _ c.args.room.now c.new-records.result c.list_query.new.records c.requires (search rules) c.new-records.ensures.end c.new-records.ensures.count c.list_query.ensures.state

pub finish-requires-clause-count : goal.finish-requires-clause-count
finish-requires-clause-count c =
    count_fits _ _ c.args.room.now c.new-records.result c.list_query.new.records c.requires (search rules) c.new-records.ensures.end c.new-records.ensures.count c.list_query.ensures.state c.image.ensures.accepted

pub returns : goal.returns
returns c =
    pairs_done _ _ c.args.room.now c.new-records.result c.list_query.new.records c.requires (search rules) c.new-records.ensures.end c.new-records.ensures.count c.list_query.ensures.state
    _ c.finish.new.self _ c.finish.ensures.room c.finish.ensures.count c.finish.ensures.stopped (grind (arith, common_steps))
