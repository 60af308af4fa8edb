-- The labels are between the length byte and the value.
use Rattle.std.proofs.Common.{arith, rules}
use Rattle.lxtr_lines.specs.Records.{record_starts, value_place, labels_start, labels_inside, record_read}
use Rattle.lxtr_lines.proofs.records.record_at.Goals as goal

pub next_key-end-requires : goal.next_key-end-requires
next_key-end-requires c = record_starts _ _ c.requires

pub overflow_add-result : goal.overflow_add-result
overflow_add-result c = let h = labels_start _ _ c.requires _ c.next_key-end.ensures in omega arith

pub slice_bounds-result-count : goal.slice_bounds-result-count
slice_bounds-result-count c = labels_start _ _ c.requires _ c.next_key-end.ensures

pub slice_bounds-result-start : goal.slice_bounds-result-start
slice_bounds-result-start c = let h = labels_start _ _ c.requires _ c.next_key-end.ensures in let k = labels_inside _ _ c.requires _ c.next_key-end.ensures in search rules

pub slice_bounds-result-end : goal.slice_bounds-result-end
slice_bounds-result-end c = let h = labels_start _ _ c.requires _ c.next_key-end.ensures in let k = labels_inside _ _ c.requires _ c.next_key-end.ensures in search rules

pub be32_at-requires : goal.be32_at-requires
be32_at-requires c = value_place _ _ c.requires _ c.next_key-end.ensures

pub returns : goal.returns
returns c = record_read _ _ c.requires _ c.next_key-end.ensures _ c.be32_at.ensures
