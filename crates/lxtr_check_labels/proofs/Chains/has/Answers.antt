-- Each turn is one of the laws of `Chains`.
use Rattle.std.proofs.Common.{arith}
use Rattle.lxtr_check_labels.specs.Chains.{look_start, look_hit, look_next, look_falls, look_end}
use Rattle.lxtr_check_labels.proofs.Chains.has.Goals as goal

pub loop-entry-init : goal.loop-entry-init
loop-entry-init c = let read = rw (← c.self.view_is) at c.requires.read in look_start _ _ _ read _ _ c.self.invariant _ c.chain_of.ensures.value

pub returns-then-label : goal.returns-then-label
returns-then-label c =
    let read = rw (← c.self.view_is) at c.requires.read in
    rw (← c.self.view_is) (look_hit _ _ _ read _ _ c.self.invariant _ c.loop-entry.invariant _ c.loop-entry-test.true _ c.label.ensures c.if-label.true)

pub bounds-self-inside-place : goal.bounds-self-inside-place
bounds-self-inside-place c =
    let next = rw (← c.self.view_is) at c.requires.next in
    omega (arith, c.loop-entry.invariant.here, c.label_count.ensures.value, c.label_count.ensures.to)

pub loop-entry-smaller : goal.loop-entry-smaller
loop-entry-smaller c = let read = rw (← c.self.view_is) at c.requires.read in look_falls _ _ _ read _ _ c.self.invariant _ c.loop-entry.invariant _ c.loop-entry-test.true

pub loop-entry-preserved : goal.loop-entry-preserved
loop-entry-preserved c =
    let read = rw (← c.self.view_is) at c.requires.read in
    look_next _ _ _ read _ _ c.self.invariant _ c.loop-entry.invariant _ c.loop-entry-test.true _ c.label.ensures c.if-label.false

pub returns : goal.returns
returns c = let read = rw (← c.self.view_is) at c.requires.read in rw (← c.self.view_is) (look_end _ _ _ read _ _ c.self.invariant _ c.loop-entry.invariant c.loop-entry-test.false)
