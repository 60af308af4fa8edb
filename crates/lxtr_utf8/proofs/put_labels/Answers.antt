-- Each turn puts the next character.
use Rattle.std.proofs.Common.{arith, rules, ◌+◌, ◌≤◌, length}
use Rattle.std.specs.Str.{chars}
use Rattle.std.proofs.lemmas.Iterator.{YieldsList-from_chars}
use Rattle.std.proofs.lemmas.List.{length_push}
use Rattle.std.proofs.lemmas.Iterator.Consumers.{YieldsList-turn, YieldsList-end}
use Rattle.lxtr_laws.specs.ByteOrders.{big}
use Rattle.lxtr_laws.specs.Overlays.{words_start}
use Rattle.lxtr_utf8.specs.Decoding.{label_put, all_put}
use Rattle.lxtr_utf8.proofs.put_labels.Goals as goal

pub loop-c-init : goal.loop-c-init
loop-c-init c = (omega arith, words_start big c.args.room.now (chars c.args.text.now) 0)

pub put_be32-requires : goal.put_be32-requires
put_be32-requires c =
    let t = YieldsList-turn (YieldsList-from_chars c.args.text.now c.utf8.text cc) c.loop-c.yielded _ c.loop-c.yielded_by _ _ c.in-Some.c c.in-Some.is c.next.ensures.steps in
    omega (arith, t.0)

pub overflow_add-at : goal.overflow_add-at
overflow_add-at c =
    let t = YieldsList-turn (YieldsList-from_chars c.args.text.now c.utf8.text cc) c.loop-c.yielded _ c.loop-c.yielded_by _ _ c.in-Some.c c.in-Some.is c.next.ensures.steps in
    let h : c.loop-c.at + 4 ≤ length c.loop-c.room = omega (arith, t.0) in
    search rules

pub loop-c-preserved : goal.loop-c-preserved
loop-c-preserved c =
    let t = YieldsList-turn (YieldsList-from_chars c.args.text.now c.utf8.text cc) c.loop-c.yielded _ c.loop-c.yielded_by _ _ c.in-Some.c c.in-Some.is c.next.ensures.steps in
    let n = length_push c.loop-c.yielded c.in-Some.c in
    (omega (arith, n), rw n (label_put c.args.room.now (chars c.args.text.now) c.requires _ _ c.loop-c.invariant.0 _ c.loop-c.invariant.1 _ _ t c.put_be32.ensures))

pub returns : goal.returns
returns c =
    let t = YieldsList-end (YieldsList-from_chars c.args.text.now c.utf8.text cc) c.loop-c.yielded _ c.loop-c.yielded_by _ _ c.in-None.is c.next.ensures.steps in
    all_put c.args.room.now (chars c.args.text.now) c.requires _ _ c.loop-c.invariant.0 _ c.loop-c.invariant.1 t.1
