-- Falling offsets are a fault; if no offset falls, the other tests follow.
use Rattle.std.proofs.Common.{sym, ◌∙◌, refl, ◌≡◌}
use Rattle.lxtr_check_lists.specs.ListTests.{lists_fall, lists_tested}
use Rattle.lxtr_check_lists.specs.Entries.{some_entry}
use Rattle.lxtr_laws.specs.FirstPlaces.{some_first_in}
use Rattle.lxtr_check_lists.proofs.lists_wrong.Goals as goal

pub returns-in_default : goal.returns-in_default
returns-in_default c = lists_fall _ _ (sym (some_first_in _ _ _ c.in_default.ensures).0) refl

pub returns : goal.returns
returns c =
    let same : c.image-image.result ≡ c.args.slots.now = c.image-image.ensures.value ∙ c.in-Ok.ensures.0 in
    let children = rw same at c.child_count.ensures.value in
    let used = rw same at c.used_count.ensures in
    let first = rw c.in-Ok.ensures.0 at c.first_wrong_entry.ensures in
    let lone = rw same at c.some_childless.ensures in
    let root = rw same at c.root_wrong.ensures in
    lists_tested _ _ (sym c.in-Ok.ensures.1) _ _ _ _ _ refl children used (some_entry _ _ _ first c.is_some.ensures) lone root
