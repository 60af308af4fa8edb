-- The loop over the codes of the children: what is known since the slot was settled, `Going`. Measure of the recursion: the number of
-- labels that are still allowed.
use Rattle.std.proofs.Common.{◌≡◌}
use Rattle.lxtr_place.specs.Plans.{code_in, label_in, pairs_in}
use Rattle.lxtr_place.specs.Turns.{Going}
use Rattle.lxtr_place.specs.Within.{Within}
use Rattle.lxtr_place.proofs.work.Work.+place.Given as goal

abbrev pub decreases-place : goal.decreases-place
decreases-place l = l.left

abbrev pub invariant-loop-j : goal.invariant-loop-j
invariant-loop-j l = record {
  slots : l.self.slots ≡ l.fn.self.slots;
  words : l.self.words.ghost_name ≡ l.fn.self.words.ghost_name;
  within : Within l.g.plan.now.tables.now.keys.bytes.now l.g.plan.now.starts.now l.g.plan.now.tables.now.labels.now l.g.plan.now.tables.now.codes.now l.g.plan.now.tables.now.order.now l.fn.self.slots l.left l.p l.g.span l.fn.self.words.now l.fn.room l.count l.base l.initial.self.words.now l.initial.room;
  going : Going l.fn.self.slots (code_in l.g.plan.now) (label_in l.g.plan.now) l.left (pairs_in l.g) l.count l.base l.initial.self.words.now l.initial.room l.room l.j l.self.words.now;
}
