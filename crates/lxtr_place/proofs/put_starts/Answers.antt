use Rattle.std.proofs.Common.{rules, refl, arith}
use Rattle.lxtr_place.specs.AllKeys.{starting_start, starting_turn}
use Rattle.lxtr_place.proofs.put_starts.Goals as goal

pub loop-i-init : goal.loop-i-init
loop-i-init c = (
  search rules,
  search rules,
  search rules,
  rw (c.into_iter-i-iterator.ensures.into_iter_gives, c.enumerate-i-items.ensures.source, c.enumerate-i-items.ensures.count, c.keys.ensures.at_value) (search starting_start),
)

pub loop-i-preserved : goal.loop-i-preserved
loop-i-preserved c =
    let v = c.loop-i.invariant in
    let s = c.in-Some.ensures.steps in
    (search rules, search rules, search rules, rw (s.0.2, s.1, s.2) (starting_turn _ _ c.args.keys.now.passed _ _ _ v.3 _ _ refl (omega (arith, v.1, s.0.0)) c.requires (rw v.0 at s.0.4)))
