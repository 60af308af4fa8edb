-- The first part of rule 11 that does not hold gives the place. If all other parts hold, the place is slot 1.
use Rattle.std.proofs.Common.{◌≡◌, ◌∙◌}
use Rattle.lxtr_fault.specs.FaultTests.{list_offset, list_entry, list_unlisted, list_childless, list_root}
use Rattle.lxtr_fault.proofs.list_faults.list_fault.Goals as goal

pub returns-in-Err : goal.returns-in-Err
returns-in-Err c = list_offset _ _ c.in-Err.ensures

pub returns-in-Some : goal.returns-in-Some
returns-in-Some c = let first = rw c.in-Ok.ensures.0 at c.in-Some.ensures in list_entry _ c.in-Ok.ensures.1 _ first

pub returns-then-child_count-used_count : goal.returns-then-child_count-used_count
returns-then-child_count-used_count c =
    let same : c.image-image.result ≡ c.args.slots.now = c.image-image.ensures.value ∙ c.in-Ok.ensures.0 in
    let none = rw c.in-Ok.ensures.0 at c.in_default.ensures in
    let children = rw same at c.child_count.ensures.value in
    let used = rw same at c.used_count.ensures in
    let first = rw c.in-Ok.ensures.0 at c.first_unlisted.ensures in
    let count = rw same at c.slot_count.ensures.value in
    list_unlisted _ c.in-Ok.ensures.1 none _ _ children used c.if-child_count-used_count.true _ _ _ first count c.unwrap_or-s.ensures

pub returns-in-Some-first_childless : goal.returns-in-Some-first_childless
returns-in-Some-first_childless c =
    let same : c.image-image.result ≡ c.args.slots.now = c.image-image.ensures.value ∙ c.in-Ok.ensures.0 in
    let none = rw c.in-Ok.ensures.0 at c.in_default.ensures in
    let children = rw same at c.child_count.ensures.value in
    let used = rw same at c.used_count.ensures in
    let first = rw same at c.in-Some-first_childless.ensures in
    list_childless _ c.in-Ok.ensures.1 none _ _ children used c.if-child_count-used_count.false _ first

pub returns-in-None : goal.returns-in-None
returns-in-None c =
    let same : c.image-image.result ≡ c.args.slots.now = c.image-image.ensures.value ∙ c.in-Ok.ensures.0 in
    let none = rw c.in-Ok.ensures.0 at c.in_default.ensures in
    let children = rw same at c.child_count.ensures.value in
    let used = rw same at c.used_count.ensures in
    let first = rw same at c.in-None.ensures in
    list_root _ c.in-Ok.ensures.1 none _ _ children used c.if-child_count-used_count.false first
