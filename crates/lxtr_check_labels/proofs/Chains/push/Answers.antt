-- The law `chained_next` says what the tables are after the two stores.
use Rattle.std.proofs.Common.{◌≤◌}
use Rattle.lxtr_spec.specs.Labels.{max_listed}
use Rattle.lxtr_spec.specs.Image.{label_count}
use Rattle.lxtr_check_labels.specs.Chains.{chained_next}
use Rattle.lxtr_check_labels.proofs.Chains.push.Goals as goal

pub invariant_of-self : goal.invariant_of-self
invariant_of-self c =
    let next = rw (← c.self.view_is) at c.requires.next in
    let read = rw (← c.self.view_is) at c.requires.read in
    let few : label_count c.self.inside.image.now ≤ max_listed = rw (← c.label_count.ensures.value) c.label_count.ensures.to in
    chained_next _ _ _ _ c.self.invariant _ _ few next read c.chain_of-chain.ensures.value
