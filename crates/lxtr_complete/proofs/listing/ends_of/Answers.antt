-- The first entry is an end if its code is 0; the entries after it have higher codes. Without the flag there is no end.
use Rattle.std.proofs.Common.{ap}
use Rattle.std.specs.Prelude.{not}
use Rattle.lxtr_complete.specs.Listing.{no_flag, first_listed, no_end, one_end}
use Rattle.lxtr_complete.proofs.listing.ends_of.Goals as goal

pub returns-then-not-has_leaf : goal.returns-then-not-has_leaf
returns-then-not-has_leaf c =
    let v = c.image-image.ensures.value in
    no_flag _ c.image-image.ensures.accepted _ c.requires _ (rw v at c.has_leaf.ensures) (ap not c.if-not-has_leaf.true)

pub child-requires : goal.child-requires
child-requires c =
    let v = c.image-image.ensures.value in
    rw v (first_listed _ c.image-image.ensures.accepted _ c.requires _ _ (rw v at c.offset-first.ensures) (rw v at c.offset.ensures) c.if-offset-first.false)

pub returns-then-code_to-ne0 : goal.returns-then-code_to-ne0
returns-then-code_to-ne0 c =
    let v = c.image-image.ensures.value in
    no_end _ c.image-image.ensures.accepted _ c.requires _ _ (rw v at c.offset-first.ensures) (rw v at c.offset.ensures) c.if-offset-first.false _ _ (rw v at c.child.ensures) (rw v at c.code_to.ensures) c.if-code_to-ne0.true

pub returns : goal.returns
returns c =
    let v = c.image-image.ensures.value in
    one_end _ c.image-image.ensures.accepted _ c.requires _ _ (rw v at c.offset-first.ensures) (rw v at c.offset.ensures) c.if-offset-first.false _ _ (rw v at c.child.ensures) (rw v at c.code_to.ensures) c.if-code_to-ne0.false
