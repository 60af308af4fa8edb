-- The next place is used.
use Rattle.std.proofs.Common.{◌∙◌, ◌∷◌, ◌++◌, [], List, ap, length, arith}
use Rattle.lxtr_spec.specs.declared.Match.{Match}
use Rattle.lxtr_spec.specs.Labels.{max_labels}
use Rattle.lxtr_search.specs.Places.{used_count, filled_take, filled_more}
use Rattle.lxtr_search.proofs.matches.Prefixes.push.Goals as goal

pub bounds-self-inside-self-inside : goal.bounds-self-inside-self-inside
unfolding max_labels
bounds-self-inside-self-inside c = omega (arith, ap length c.self.view_is, used_count _ _ _ c.self.invariant)

pub bounds-self-inside-self-inside-2 : goal.bounds-self-inside-self-inside-2
unfolding max_labels
bounds-self-inside-self-inside-2 c = omega (arith, ap length c.self.view_is, used_count _ _ _ c.self.invariant)

pub overflow_add-self : goal.overflow_add-self
unfolding max_labels
overflow_add-self c = omega (arith, c.self.invariant.within)

pub invariant_of-self : goal.invariant_of-self
invariant_of-self c = filled_more _ _ _ c.self.invariant _ (omega (arith, ap length c.self.view_is, used_count _ _ _ c.self.invariant))

pub returns : goal.returns
returns c = filled_take _ _ _ c.self.invariant _ (omega (arith, ap length c.self.view_is, used_count _ _ _ c.self.invariant)) ∙ ap (λ (l : List Match). l ++ c.args.m ∷ []) c.self.view_is
