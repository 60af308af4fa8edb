-- Fewer than four bytes are no label; otherwise the first four are one, and the rest has the others.
use Rattle.std.proofs.Common.{◌≡◌, ◌-◌, length, take, drop, take_all, length-drop, arith, sym, ap, ◌∙◌}
use Rattle.lxtr_laws.specs.QueryLabels.{labels_none, labels_first}
use Rattle.lxtr_bytes.proofs.labels.LabelsIterator.next.Goals as goal

pub returns-then-self-lt4-clause-steps : goal.returns-then-self-lt4-clause-steps
returns-then-self-lt4-clause-steps c = let e = sym c.self.view_is ∙ labels_none c.self.inside.bytes.now c.if-self-lt4.true in (e, e)

pub returns-clause-steps : goal.returns-clause-steps
returns-clause-steps c =
    let b = c.self.inside.bytes.now in
    let all : take (length b - 4) (drop 4 b) ≡ drop 4 b = take_all _ _ (omega (arith, length-drop 4 b)) in
    rw (← c.self.view_is, c.be32_at-label.ensures, all) (labels_first b c.if-self-lt4.false)

pub returns-clause-goes : goal.returns-clause-goes
returns-clause-goes c =
    let b = c.self.inside.bytes.now in
    let all : take (length b - 4) (drop 4 b) ≡ drop 4 b = take_all _ _ (omega (arith, length-drop 4 b)) in
    let e = sym c.self.view_is ∙ labels_first b c.if-self-lt4.false in
    record { on = λ _. (tt, tt, rw all (omega (arith, ap length e))); keeps = tt; rests = λ _. tt }
