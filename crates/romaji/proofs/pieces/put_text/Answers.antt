-- Each turn lays one more label after the others.
use Rattle.std.proofs.Common.{◌≡◌, ◌+◌, ◌*◌, ◌∷◌, ◌∙◌, arith, refl, drop, get_or}
use Rattle.lxtr_spec.specs.Labels.{labels_of}
use Rattle.lxtr_spec.specs.Numbers.{be_bytes}
use Rattle.lxtr_laws.specs.Overlays.{over}
use Rattle.romaji.specs.Labels.{next_label, labels_start, labels_next}
use Rattle.romaji.proofs.pieces.put_text.Goals as goal

pub loop-i-init : goal.loop-i-init
loop-i-init c =
    rw (c.into_iter-i-iterator.ensures.into_iter_gives, c.enumerate-i-items.ensures.count, c.enumerate-i-items.ensures.source, c.of.ensures)
    (refl, labels_start _ _ _)

pub loop-i-preserved : goal.loop-i-preserved
loop-i-preserved c =
    let s = c.in-Some.ensures.steps in
    let rest : drop c.loop-i.i-iterator.count (labels_of c.args.text.now) ≡ c.in-Some.label ∷ c.next.new.self.iter = c.loop-i.invariant.0 ∙ s.0 in
    let n = next_label (labels_of c.args.text.now) c.loop-i.i-iterator.count c.in-Some.label c.next.new.self.iter rest in
    let place : 4 * c.args.at + 4 * c.in-Some.i ≡ 4 * (c.args.at + c.in-Some.i) = omega arith in
    let put : c.put_be32.new.room ≡ over c.loop-i.room (4 * c.args.at + 4 * c.loop-i.i-iterator.count) (be_bytes (get_or (labels_of c.args.text.now) c.loop-i.i-iterator.count 0)) =
    rw (n.1, ← s.1, place) c.put_be32.ensures in
    rw s.2 (n.2, labels_next _ _ _ c.requires _ _ c.loop-i.invariant.1 _ n.0 put)
