-- The sum so far, plus the bytes of the keys that are left, is the length of the list.
use Rattle.lxtr_words.specs.KeyWriting.{Summed}
use Rattle.lxtr_words.proofs.table.Words.list_length.Given as goal

abbrev pub invariant-loop-start : goal.invariant-loop-start
invariant-loop-start l = Summed l.text l.starts l.total l.start-index
