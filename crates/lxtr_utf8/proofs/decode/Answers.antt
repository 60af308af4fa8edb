-- The problem of a text that is not UTF-8, or of a room that is too small; or the labels at the front of the room.
use Rattle.std.proofs.Common.{rules, arith, ◌≡◌, length}
use Rattle.std.specs.Str.{chars}
use Rattle.std.proofs.lemmas.Str.{chars_from_encodes}
use Rattle.lxtr_utf8.specs.Decoding.{decoded_wrong, decoded_short, room_long, decoded_ok}
use Rattle.lxtr_utf8.proofs.decode.Goals as goal

pub returns-in_default : goal.returns-in_default
returns-in_default c = record { answer = decoded_wrong c.args.text.now c.args.room.now c.in_default.ensures.cases.0; within = search rules }

pub returns-then-room-count : goal.returns-then-room-count
returns-then-room-count c =
    let p = c.in-Ok.ensures.cases in
    let n : c.count-count.result ≡ length (chars c.args.text.now) = rw (← p.0) (search (rules, chars_from_encodes)) in
    record { answer = decoded_short c.args.text.now c.args.room.now p.1 _ n c.if-room-count.true; within = search rules }

pub put_labels-requires : goal.put_labels-requires
put_labels-requires c =
    let p = c.in-Ok.ensures.cases in
    let n : c.count-count.result ≡ length (chars c.args.text.now) = rw (← p.0) (search (rules, chars_from_encodes)) in
    rw p.0 (room_long c.args.text.now c.args.room.now p.1 _ n c.if-room-count.false)

pub returns : goal.returns
returns c =
    let p = c.in-Ok.ensures.cases in
    let n : c.count-count.result ≡ length (chars c.args.text.now) = rw (← p.0) (search (rules, chars_from_encodes)) in
    record {
      answer = decoded_ok c.args.text.now c.args.room.now p.1 _ n c.if-room-count.false _ (rw p.0 at c.put_labels.ensures);
      within = omega arith;
    }
