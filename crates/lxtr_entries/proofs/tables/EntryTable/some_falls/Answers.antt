-- Each turn compares two offsets that follow each other.
use Rattle.std.proofs.Common.{arith, rules, refl}
use Rattle.lxtr_entries.specs.Reading.{rises_start, rises_next, rises_fails, rises_all}
use Rattle.lxtr_entries.proofs.tables.EntryTable.some_falls.Goals as goal

pub loop-i-init : goal.loop-i-init
loop-i-init c = search (rises_start, rules)

pub returns-then-next-before : goal.returns-then-next-before
returns-then-next-before c = rises_fails _ _ _ _ c.loop-i.invariant _ (omega arith) c.offset-next.ensures c.if-next-before.true refl

pub loop-i-preserved : goal.loop-i-preserved
loop-i-preserved c = rises_next _ _ _ _ c.loop-i.invariant _ (omega arith) c.offset-next.ensures c.if-next-before.false

pub returns : goal.returns
returns c = rises_all _ _ _ _ c.loop-i.invariant (omega arith) refl
