-- The offsets are tested before the value; offsets that are right end at the number of entries.
use Rattle.std.proofs.Common.{sym, ◌∙◌}
use Rattle.lxtr_laws.specs.RefusalChains.{chain}
use Rattle.lxtr_entries_laws.specs.TableFacts.{offsets_right}
use Rattle.lxtr_entries.proofs.tables.EntryTable.check.Goals as goal

pub returns-then-offsets_wrong-clause-refusal : goal.returns-then-offsets_wrong-clause-refusal
returns-then-offsets_wrong-clause-refusal c = search chain

pub returns-then-value_beyond-clause-refusal : goal.returns-then-value_beyond-clause-refusal
returns-then-value_beyond-clause-refusal c = search chain

pub returns-clause-refusal : goal.returns-clause-refusal
returns-clause-refusal c = search chain

pub returns-clause-count : goal.returns-clause-count
returns-clause-count c = c.last_offset.ensures ∙ ((offsets_right _).0 (sym c.offsets_wrong.ensures ∙ c.if-offsets_wrong.false)).last
