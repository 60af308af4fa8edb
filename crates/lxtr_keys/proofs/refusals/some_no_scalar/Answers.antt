-- If a label is no scalar value, the answer is yes.
use Rattle.std.proofs.Common.{refl, ap, arith, not}
use Rattle.lxtr_laws.specs.Scans.{scan_start, scan_hit, scan_next, scan_end}
use Rattle.lxtr_keys.specs.KeyRefusals.{not_scalar}
use Rattle.lxtr_keys.proofs.refusals.some_no_scalar.Goals as goal

pub loop-j-init : goal.loop-j-init
loop-j-init c = search scan_start

pub returns-then-not-is_scalar : goal.returns-then-not-is_scalar
returns-then-not-is_scalar c = scan_hit _ _ _ c.loop-j.invariant _ refl _ (omega arith) (not_scalar _ _ _ _ _ c.is_scalar.ensures c.label.ensures) (ap not c.if-not-is_scalar.true)

pub loop-j-preserved : goal.loop-j-preserved
loop-j-preserved c = scan_next _ _ _ c.loop-j.invariant _ (omega arith) (not_scalar _ _ _ _ _ c.is_scalar.ensures c.label.ensures) (ap not c.if-not-is_scalar.false)

pub returns : goal.returns
returns c = scan_end _ _ _ c.loop-j.invariant _ refl (omega arith)
