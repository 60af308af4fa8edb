-- The bytes before this one are in the query, as labels.
use Rattle.std.proofs.Common.{◌-◌}
use Rattle.romaji.specs.Texts.{QueryPut}
use Rattle.romaji.proofs.texts.Text.put_query.Given as goal

abbrev pub invariant-loop-i : goal.invariant-loop-i
invariant-loop-i l = QueryPut l.self l.from (l.to - l.from) l.initial.query (l.i - l.from) l.query
