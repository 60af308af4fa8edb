-- `find` over the places of the list answers the first of its entries that is wrong. If no offset falls, each entry is a child.
use Rattle.std.proofs.Common.{rules, tests, ◌+◌, ◌<◌}
use Rattle.std.proofs.lemmas.Iterator.{serves_from_Range}
use Rattle.lxtr_spec.specs.Image.{offset, child_count}
use Rattle.lxtr_spec.specs.Refusals.{entry_wrong_in}
use Rattle.lxtr_laws.specs.Finds.{found_by}
use Rattle.lxtr_check_lists.specs.ListTests.{entry_place}
use Rattle.lxtr_check_lists.proofs.Lists.first_wrong_in.Goals as goal

pub find-requires-clause-callable : goal.find-requires-clause-callable
find-requires-clause-callable c =
    let wide = rw c.image-image.ensures.value at c.list_width.ensures in
    serves_from_Range (λ x q k. search (rules, tests)) (λ x low high.
    let place : offset c.image-image.result c.args.p + x < child_count c.image-image.result =
    rw c.image-image.ensures.value (entry_place _ _ x _ c.image-image.ensures.passed c.image-image.ensures.rising c.requires wide high) in
    search rules)

pub returns : goal.returns
returns c =
    let wide = rw c.image-image.ensures.value at c.list_width.ensures in
    rw (← wide) (found_by _ (entry_wrong_in c.args.self.now c.args.p) _ _ _ c.find.ensures.ran (λ x b q k. search (rules, tests)))
