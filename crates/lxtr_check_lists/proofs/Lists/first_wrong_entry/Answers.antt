-- The first list with a wrong entry ends the search.
use Rattle.std.proofs.Common.{◌+◌, ◌^◌, ◌<◌, arith, rules, below_more}
use Rattle.lxtr_check_lists.specs.Entries.{entry_fits, entry_found, list_right, entry_none}
use Rattle.lxtr_check_lists.proofs.Lists.first_wrong_entry.Goals as goal

pub overflow_add-result : goal.overflow_add-result
overflow_add-result c =
    let start = rw c.image-image.ensures.value at c.offset.ensures in
    let count = rw c.image-image.ensures.value at c.slot_count-p-end.ensures.value in
    let small = entry_fits _ _ _ (omega arith) c.in-Some.ensures c.image-image.ensures.passed c.image-image.ensures.rising in
    let here : c.offset.result + c.in-Some.i < 2 ^ 32 = omega arith in
    search rules

pub returns-in-Some : goal.returns-in-Some
returns-in-Some c =
    let start = rw c.image-image.ensures.value at c.offset.ensures in
    let count = rw c.image-image.ensures.value at c.slot_count-p-end.ensures.value in
    rw start (entry_found _ _ _ (omega arith) c.in-Some.ensures c.loop-p.invariant)

pub loop-p-preserved : goal.loop-p-preserved
loop-p-preserved c = below_more _ _ c.loop-p.invariant (list_right _ _ c.in_default.ensures)

pub returns : goal.returns
returns c =
    let count = rw c.image-image.ensures.value at c.slot_count-p-end.ensures.value in
    entry_none _ (λ k l. c.loop-p.invariant k (omega arith))
