-- A record that lies wholly in the listing ends in it.
use Rattle.std.proofs.Common.{rules, ap, ℕ, ◌+◌}
use Rattle.lxtr_lines.specs.Records.{record_starts, value_place, record_end}
use Rattle.lxtr_lines.proofs.records.record_end.Goals as goal

pub next_key-requires : goal.next_key-requires
next_key-requires c = record_starts _ _ c.requires

pub overflow_add-result : goal.overflow_add-result
overflow_add-result c = let h = value_place _ _ c.requires _ c.next_key.ensures in search rules

pub returns : goal.returns
unfolding record_end
returns c = ap (λ (n : ℕ). n + 4) c.next_key.ensures
