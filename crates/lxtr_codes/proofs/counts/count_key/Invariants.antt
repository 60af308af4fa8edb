-- A label's count, plus its occurrences among the key's labels from j on, is its count after the whole key.
use Rattle.lxtr_spec.specs.KeyLists.{key_at}
use Rattle.lxtr_codes.specs.LabelCounting.{KeyCounting}
use Rattle.lxtr_codes.proofs.counts.count_key.Given as goal

abbrev pub invariant-loop-j : goal.invariant-loop-j
invariant-loop-j l = KeyCounting (key_at l.key.keys.now l.key.at) l.labels l.fn.counts l.counts l.j
