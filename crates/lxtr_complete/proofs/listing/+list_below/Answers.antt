-- Each step is one of the laws of `Listing`: the end is listed, then the pairs below each other entry; what is left to do completes the
-- whole, also where a record has no room.
use Rattle.std.proofs.Common.{refl, ◌∙◌, arith}
use Rattle.lxtr_spec.specs.Labels.{max_labels}
use Rattle.lxtr_complete.specs.Listing.{list_none, end_stopped, going_place, going_code, going_below, going_on, going_stopped, going_kept, going_end}
use Rattle.lxtr_complete.proofs.listing.+list_below.Goals as goal

pub returns-then-left-eq0-clause-state : goal.returns-then-left-eq0-clause-state
unfolding max_labels
returns-then-left-eq0-clause-state t c =
    list_none _ _ _ 0 _ _ c.if-left-eq0.true

pub returns-in_err-list_end-clause-state : goal.returns-in_err-list_end-clause-state
unfolding max_labels
returns-in_err-list_end-clause-state t c =
    let v = c.image-image.ensures.value in
    end_stopped _ _ _ _ _ _ c.requires c.if-left-eq0.false refl _ _ _ c.ends_of-ends.ensures (rw v at c.offset.ensures) (rw v at c.offset-end.ensures) _ c.list_end.ensures.state c.in_err-list_end.ensures.stopped

pub entry_at-entry-requires-clause-j_bound : goal.entry_at-entry-requires-clause-j_bound
unfolding max_labels
entry_at-entry-requires-clause-j_bound t c =
    let v = c.image-image.ensures.value in
    rw v (going_place _ _ _ _ _ _ c.requires c.if-left-eq0.false refl _ _ _ c.ends_of-ends.ensures (rw v at c.offset.ensures) (rw v at c.offset-end.ensures) _ c.list_end.ensures.state _ _ _ c.loop-j.invariant.0 c.image-image.ensures.accepted c.loop-j.auto.j c.loop-j-test.true)

pub entry_at-entry-requires-clause-code_listed : goal.entry_at-entry-requires-clause-code_listed
unfolding max_labels
entry_at-entry-requires-clause-code_listed t c =
    let v = c.image-image.ensures.value in
    rw v (going_code _ _ _ _ _ _ c.requires c.if-left-eq0.false refl _ _ _ c.ends_of-ends.ensures (rw v at c.offset.ensures) (rw v at c.offset-end.ensures) _ c.list_end.ensures.state _ _ _ c.loop-j.invariant.0 c.image-image.ensures.accepted c.loop-j.auto.j c.loop-j-test.true _ (rw v at c.base-base.ensures))

pub list_below-requires : goal.list_below-requires
unfolding max_labels
list_below-requires t c =
    let v = c.image-image.ensures.value in
    (omega arith, going_below _ _ _ _ _ _ c.requires c.if-left-eq0.false refl _ _ _ c.ends_of-ends.ensures (rw v at c.offset.ensures) (rw v at c.offset-end.ensures) _ c.list_end.ensures.state _ _ _ c.loop-j.invariant.0 c.image-image.ensures.accepted c.loop-j.auto.j c.loop-j-test.true _ (rw v at c.base-base.ensures) _ _ (rw v at c.entry_at-entry.ensures))

pub returns-in_err-list_below-clause-state : goal.returns-in_err-list_below-clause-state
unfolding max_labels
returns-in_err-list_below-clause-state t c =
    let v = c.image-image.ensures.value in
    let next = going_on _ _ _ _ _ _ c.requires c.if-left-eq0.false refl _ _ _ c.ends_of-ends.ensures (rw v at c.offset.ensures) (rw v at c.offset-end.ensures) _ c.list_end.ensures.state _ _ _ c.loop-j.invariant.0 c.image-image.ensures.accepted c.loop-j.auto.j c.loop-j-test.true _ (rw v at c.base-base.ensures) _ _ (rw v at c.entry_at-entry.ensures) _ _ c.list_below.ensures.state c.list_below.ensures.kept in
    going_stopped _ _ _ _ _ _ c.requires c.if-left-eq0.false refl _ _ _ c.ends_of-ends.ensures (rw v at c.offset.ensures) (rw v at c.offset-end.ensures) _ c.list_end.ensures.state _ _ _ next c.in_err-list_below.ensures.stopped

pub returns-in_err-list_below-clause-kept : goal.returns-in_err-list_below-clause-kept
unfolding max_labels
returns-in_err-list_below-clause-kept t c =
    let v = c.image-image.ensures.value in
    let next = going_on _ _ _ _ _ _ c.requires c.if-left-eq0.false refl _ _ _ c.ends_of-ends.ensures (rw v at c.offset.ensures) (rw v at c.offset-end.ensures) _ c.list_end.ensures.state _ _ _ c.loop-j.invariant.0 c.image-image.ensures.accepted c.loop-j.auto.j c.loop-j-test.true _ (rw v at c.base-base.ensures) _ _ (rw v at c.entry_at-entry.ensures) _ _ c.list_below.ensures.state c.list_below.ensures.kept in
    going_kept _ _ _ _ _ _ c.requires c.if-left-eq0.false refl _ _ _ c.ends_of-ends.ensures (rw v at c.offset.ensures) (rw v at c.offset-end.ensures) _ c.list_end.ensures.state _ _ _ next

pub loop-j-preserved : goal.loop-j-preserved
unfolding max_labels
loop-j-preserved t c =
    let v = c.image-image.ensures.value in
    let next = going_on _ _ _ _ _ _ c.requires c.if-left-eq0.false refl _ _ _ c.ends_of-ends.ensures (rw v at c.offset.ensures) (rw v at c.offset-end.ensures) _ c.list_end.ensures.state _ _ _ c.loop-j.invariant.0 c.image-image.ensures.accepted c.loop-j.auto.j c.loop-j-test.true _ (rw v at c.base-base.ensures) _ _ (rw v at c.entry_at-entry.ensures) _ _ c.list_below.ensures.state c.list_below.ensures.kept in
    (next, c.list_below.ensures.same_room ∙ c.loop-j.invariant.1)

pub returns-clause-state : goal.returns-clause-state
unfolding max_labels
returns-clause-state t c =
    let v = c.image-image.ensures.value in
    going_end _ _ _ _ _ _ c.requires c.if-left-eq0.false refl _ _ _ c.ends_of-ends.ensures (rw v at c.offset.ensures) (rw v at c.offset-end.ensures) _ c.list_end.ensures.state _ _ _ c.loop-j.invariant.0 c.loop-j-test.false
