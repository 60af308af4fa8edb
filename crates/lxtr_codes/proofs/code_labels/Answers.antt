-- What each pass leaves is what the next one requires; together they leave the tables of the code map.
use Rattle.std.proofs.Common.{rules}
use Rattle.lxtr_codes.specs.Mapping.{order_fits, tables_made}
use Rattle.lxtr_codes.proofs.code_labels.Goals as goal

pub assign-requires-clause-below : goal.assign-requires-clause-below
assign-requires-clause-below c = search order_fits

pub returns : goal.returns
returns c = tables_made c.args.labels.now c.count_keys.new.counts c.requires.labels_len_bound.0 (search rules) c.args.order.now c.rank.new.order (search rules) (search rules) c.rank.ensures.order_after _ c.args.codes.now c.assign.new.codes c.requires.labels_value c.count_keys.ensures.counted (search rules) (search rules) c.assign.ensures.assigned
