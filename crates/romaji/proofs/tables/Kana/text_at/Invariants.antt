-- The text of the value that was reached begins at `at`.
use Rattle.romaji.specs.Tables.{Begins}
use Rattle.romaji.proofs.tables.Kana.text_at.Given as goal

abbrev pub invariant-loop : goal.invariant-loop
invariant-loop l = Begins l.self-inside.bytes.now l.counter l.at
