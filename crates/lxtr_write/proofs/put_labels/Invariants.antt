-- The first j labels are written. Each turn lays one more after them.
use Rattle.lxtr_spec.specs.Numbers.{be_words}
use Rattle.lxtr_laws.specs.Overlays.{WordsIn}
use Rattle.lxtr_build_laws.specs.CodeTables.{picked}
use Rattle.lxtr_write.proofs.put_labels.Given as goal

abbrev pub invariant-loop-j : goal.invariant-loop-j
invariant-loop-j l = WordsIn be_words l.fn.out (picked l.tables.labels.now l.tables.order.now) l.at l.j l.out
