-- `any` over the places of the list tests each entry. If no offset falls, each entry is a child.
use Rattle.std.proofs.Common.{rules, tests, ◌+◌, ◌<◌}
use Rattle.std.proofs.lemmas.Iterator.{serves_from_Range}
use Rattle.lxtr_spec.specs.Image.{offset, child_count}
use Rattle.lxtr_spec.specs.FaultPlaces.{is_entry}
use Rattle.lxtr_laws.specs.Finds.{any_by}
use Rattle.lxtr_check_lists.specs.ListTests.{entry_place}
use Rattle.lxtr_fault.proofs.list_faults.has_entry.Goals as goal

pub any-requires-clause-callable : goal.any-requires-clause-callable
any-requires-clause-callable c =
    let wide = rw c.image-image.ensures.value at c.list_width.ensures in
    serves_from_Range (λ x q k. search (rules, tests)) (λ x low high.
    let place : offset c.image-image.result c.args.p + x < child_count c.image-image.result =
    rw c.image-image.ensures.value (entry_place _ _ x _ c.image-image.ensures.passed c.image-image.ensures.rising c.requires wide high) in
    search rules)

pub returns : goal.returns
returns c =
    let wide = rw c.image-image.ensures.value at c.list_width.ensures in
    rw (← wide) (any_by _ (is_entry c.args.lists.now c.args.p c.args.s) _ _ _ c.any.ensures.ran (λ x b q k. search (rules, tests)))
