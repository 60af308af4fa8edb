-- Writing the keys that are left makes the output what writing all keys makes it.
use Rattle.lxtr_words.specs.KeyWriting.{Writing}
use Rattle.lxtr_words.proofs.table.Words.put_keys.Given as goal

abbrev pub invariant-loop-start : goal.invariant-loop-start
invariant-loop-start l = Writing l.text l.starts l.initial.out l.out l.at l.start-index
