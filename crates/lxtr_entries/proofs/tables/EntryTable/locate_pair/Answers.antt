-- 26 by either test, or where the entries of the pair lie.
use Rattle.std.proofs.Common.{refl}
use Rattle.lxtr_entries.specs.Locating.{pair_falls, pair_past, pair_told, first_none, first_some}
use Rattle.lxtr_entries.proofs.tables.EntryTable.locate_pair.Goals as goal

pub returns-then-to-from : goal.returns-then-to-from
returns-then-to-from c = pair_falls _ _ _ _ c.if-to-from.true refl

pub returns-then-entry_count-end : goal.returns-then-entry_count-end
returns-then-entry_count-end c = pair_past _ _ _ c.if-to-from.false _ c.entry_count.ensures _ c.if-entry_count-end.true refl

pub returns-then-count-eq0 : goal.returns-then-count-eq0
returns-then-count-eq0 c = pair_told _ _ _ c.if-to-from.false _ c.entry_count.ensures _ c.if-entry_count-end.false (first_none _ _ c.if-count-eq0.true)

pub returns-else-count-eq0 : goal.returns-else-count-eq0
returns-else-count-eq0 c = pair_told _ _ _ c.if-to-from.false _ c.entry_count.ensures _ c.if-entry_count-end.false (first_some _ _ c.if-count-eq0.false)
