use Rattle.std.proofs.Common.{◌∙◌, arith, refl}
use Rattle.lxtr_place.specs.Turns.{no_label_left, none_fits}
use Rattle.lxtr_place.specs.Within.{Called, within, loop_first, loop_end, past_end, small, child_called, child_placed, child_refused}
use Rattle.lxtr_place.proofs.work.Work.+place.Goals.{then-code-ne0+in_ok-place, else-code-ne0}
use Rattle.lxtr_place.proofs.work.Work.+place.Goals as goal

pub returns-then-left-eq0-clause-words_after : goal.returns-then-left-eq0-clause-words_after
returns-then-left-eq0-clause-words_after t c = search no_label_left

pub returns-in_err-base-clause-words_after : goal.returns-in_err-base-clause-words_after
returns-in_err-base-clause-words_after t c =
    let answer = rw c.end_value.ensures.value at c.settle.ensures.words_after in
    rw c.from_residual.ensures (none_fits _ _ _ _ _ _ _ _ _ _ c.child_codes-count.ensures.room_after answer c.if-left-eq0.false c.in_err-base.was _)

pub loop-j-init : goal.loop-j-init
loop-j-init t c =
    let plan = c.args.g.now.plan.now in
    let called : Called plan.tables.now.keys.bytes.now plan.starts.now plan.tables.now.labels.now plan.tables.now.codes.now plan.tables.now.order.now c.args.self.now.slots c.args.left c.args.p c.args.g.now.span c.args.self.now.words.now c.args.room.now =
    record { tables = plan.tables.now.right; placeable = c.args.g.now.placeable; fresh = c.requires.fresh; deep = c.requires.deep; lent = record { indexed = c.args.g.now.indexed; long = c.requires.long } } in
    let answer = rw c.end_value.ensures.value at c.settle.ensures.words_after in
    let w = within called _ _ _ c.child_codes-count.ensures.upper_bound c.child_codes-count.auto.room c.child_codes-count.ensures.room_after _ _ answer c.in_ok-base.was c.if-left-eq0.false in
    record { slots = c.settle.ensures.same_work.0; words = c.settle.ensures.same_work.1; within = w; going = loop_first w refl }

pub child-child-requires-clause-code_in_bounds : goal.child-child-requires-clause-code_in_bounds
child-child-requires-clause-code_in_bounds t c = (omega arith, small c.loop-j.invariant.within c.loop-j.invariant.going c.loop-j-test.true refl c.if-code-ne0.true)

pub place-requires : goal.place-requires
place-requires t c =
    let i = c.loop-j.invariant in
    let child = c.child-child.ensures in
    let group = rw child.plan_value at child.pairs_value in
    let whole = rw child.plan_value at c.child-child.result.placeable.grouped in
    let starts = rw child.plan_value at c.child-child.result.indexed in
    let called = child_called i.within i.going c.loop-j-test.true refl c.if-code-ne0.true c.slot_under.ensures group whole child.depth_value starts in
    (omega arith, (rw i.slots called.fresh, (called.deep, called.lent.long)))

pub returns-in_err-place-clause-words_after : goal.returns-in_err-place-clause-words_after
returns-in_err-place-clause-words_after t c =
    let i = c.loop-j.invariant in
    let group = rw c.child-child.ensures.plan_value at c.child-child.ensures.pairs_value in
    let placed = rw (c.child-child.ensures.plan_value, i.slots) at c.place.ensures.words_after in
    rw c.from_residual-in_err-place.ensures (child_refused i.within i.going c.loop-j-test.true refl c.if-code-ne0.true c.slot_under.ensures group _ _ placed c.in_err-place.was _)

pub loop-j-preserved : goal.loop-j-preserved
loop-j-preserved t c =
    let i = c.loop-j.invariant in
    let h = c.loop-j-test.true in
    elim c.if-code-ne0.branch [
      | then-code-ne0+in_ok-place w ↦
          let group = rw w.child-child.ensures.plan_value at w.child-child.ensures.pairs_value in
          let placed = rw (w.child-child.ensures.plan_value, i.slots) at w.place.ensures.words_after in
          let going = child_placed i.within i.going h refl w.if-code-ne0.true w.slot_under.ensures group _ _ placed w.in_ok-place.was _ _ _ w.room-is c.if-code-ne0.auto.room refl in
          rw w.self-is (record { slots = w.place.ensures.same_work.0 ∙ i.slots; words = w.place.ensures.same_work.1 ∙ i.words; within = i.within; going = going })
      | else-code-ne0 w ↦ rw w.self-is (record { slots = i.slots; words = i.words; within = i.within; going = past_end i.within i.going h refl w.if-code-ne0.false _ _ w.room-is refl })
    ]

pub returns-clause-words_after : goal.returns-clause-words_after
returns-clause-words_after t c = loop_end c.loop-j.invariant.within c.loop-j.invariant.going c.loop-j-test.false
