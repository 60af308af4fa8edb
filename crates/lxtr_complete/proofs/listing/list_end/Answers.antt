-- Without an end nothing is written; otherwise its record, whose value is that of the first child in the list.
use Rattle.lxtr_laws.specs.ListEntries.{child_used, place_below}
use Rattle.lxtr_complete.specs.Listing.{end_none, end_put, end_place}
use Rattle.lxtr_complete.proofs.listing.list_end.Goals as goal

pub returns-then-ends-eq0-clause-state : goal.returns-then-ends-eq0-clause-state
returns-then-ends-eq0-clause-state c = end_none _ _ _ _ _ c.if-ends-eq0.true

pub child-leaf-requires : goal.child-leaf-requires
child-leaf-requires c =
    let v = c.image-image.ensures.value in
    rw v (place_below c.image-image.ensures.accepted _ _ c.requires.n_bound (end_place _ _ _ c.requires.ends_of c.if-ends-eq0.false _ (rw v at c.offset.ensures)))

pub value_number-requires : goal.value_number-requires
value_number-requires c =
    let v = c.image-image.ensures.value in
    let ok = c.image-image.ensures.accepted in
    let leaf = rw v at c.child-leaf.ensures in
    rw (v, leaf) (child_used ok _ (place_below ok _ _ c.requires.n_bound (end_place _ _ _ c.requires.ends_of c.if-ends-eq0.false _ (rw v at c.offset.ensures)))).0

pub returns-clause-state : goal.returns-clause-state
returns-clause-state c =
    let v = c.image-image.ensures.value in
    end_put _ _ _ _ _ c.if-ends-eq0.false _ _ _ (rw v at c.offset.ensures) (rw v at c.child-leaf.ensures) (rw v at c.value_number.ensures) _ c.put.ensures.state
