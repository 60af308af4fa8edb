-- Each test that fails is a wrong form; a table that passes them is wrong exactly if its rest is not of whole entries.
use Rattle.std.proofs.Common.{rules}
use Rattle.lxtr_entries.specs.Reading.{no_head, other_version, no_offsets, rest_told}
use Rattle.lxtr_entries.proofs.tables.form_wrong.Goals as goal

pub returns-then-table-lt-HEAD_LENGTH : goal.returns-then-table-lt-HEAD_LENGTH
returns-then-table-lt-HEAD_LENGTH c = search (no_head, rules)

pub returns-then-version_at-ne-VERSION : goal.returns-then-version_at-ne-VERSION
returns-then-version_at-ne-VERSION c = search (other_version, rules)

pub returns-then-table-start : goal.returns-then-table-start
returns-then-table-start c = search (no_offsets, rules)

pub returns : goal.returns
returns c = search (rest_told, rules)
